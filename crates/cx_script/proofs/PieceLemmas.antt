-- A run of a script, piece by piece.
use Rattle.std.proofs.Common.{◌≡◌, ℕ, ◌+◌, ◌<◌, true, List, [], ◌∷◌, ◌++◌, length, take, Some, Option, Result, Ok, Err, MatchOption, IsOkAnd, cond, refl, sym, ap, ◌∙◌, subst, append-nil, append_assoc, arith}
use Rattle.cx_script_io.specs.Devices.{DeviceOutput, Takes, TakesFront, device_output}
use Rattle.cx_script_io.specs.Facts.Devices.{front_flushed, sends_flushed, sends_written}
use Rattle.std.specs.Str.Lines.{strip_carriage_return}
use Rattle.std.proofs.lemmas.List.{take_all}
use Rattle.cx_script.specs.declared.run.Place.{Place}
use Rattle.cx_script_blocks.specs.Blocks.{step_at, step_in}
use Rattle.cx_script_blocks.specs.declared.blocks.LineStep.{LineStep}
use Rattle.std.specs.Result.{result_map_both}
use Rattle.cx_script_io.specs.Lines.{is_too_long, last_met, lines_met}
use Rattle.cx_script.specs.Script.{first_place, script_from, script_in, step_from, stepped, fault_at_ending}
use Rattle.cx_script.specs.Transcript.{PerformsAll, Wrote, EndsScript, front_of}
use Rattle.cx_script.specs.Facts.Fronts.{part_first}
use Rattle.cx_script.specs.Parts.Progress.{TakesLine, Took, Came, Closes, Halts, SentAll, SentSome, Stopped, logs}
use Rattle.cx_script_io.specs.Unbroken.{IsUnbroken}
use Rattle.cx_script_actions.specs.Language.{Language}
use Rattle.cx_script_blocks.specs.declared.faults.RunFault.{RunFault}
use Rattle.cx_script_blocks.specs.declared.faults.RunFault.TheVariants.{BadLine, BadLook, Source, Read, Write, Memory, ReadBound}
use Rattle.cx_script_blocks.specs.declared.faults.Summary.{Summary}
use Rattle.cx_script_io.specs.declared.input.Ending.{Ending}
use Rattle.cx_script_io.specs.declared.input.Ending.TheVariants.{Failed}
use Rattle.cx_script_io.specs.Facts.Lines.{line_met, none_met, begins_long, long_bytes, unbroken_append, BeginsLong}
use Rattle.cx_script.proofs.CallingLemmas.{log_is}
use Rattle.cx_script.proofs.RunLemmas.{closes_after, ended, front, halts_after, own_fault, stops_line, took_line, took_none, took_trans}

-- a line that is too long is a bad one
pub no_step : {A H : Type 0} (language : Language A H) (n : ℕ) (block : Place H) (line : List ℕ) → is_too_long line ≡ true → step_from language n block line ≡ Err (BadLine n)
unfolding step_at step_from
no_step {A} {H} language n block line e =
    ap (λ b. result_map_both (stepped language n block) (λ (f : RunFault). f) (let due : Result (LineStep A H) RunFault = cond b (Err (BadLine n)) (step_in language n block.block line) in due)) e

pub too_long_line : {A H : Type 0} (language : Language A H) (n : ℕ) (block : Place H) (bytes : List ℕ) → 4097 < length bytes → step_from language n block (strip_carriage_return bytes) ≡ Err (BadLine n)
too_long_line language n block bytes h = no_step language n block (strip_carriage_return bytes) (long_bytes bytes h)

module _ {A H S : Type 0} (language : Language A H) (performs : S → A → List ℕ → S → Type 0) where
  pub came_start : (old : S) (n : ℕ) (block : Place H) (ahead : List ℕ) (w : DeviceOutput (List ℕ)) → Came language performs old n block ahead w old n block ahead w
  came_start old n block ahead w = record { lines = []; met = λ ending rest. refl; took = took_none language performs old n block w }

  -- more bytes after both
  pub came_more : (old mid : S) (n m : ℕ) (block next : Place H) (ahead left more : List ℕ) (first after : DeviceOutput (List ℕ))
      → Came language performs old n block ahead first mid m next left after → Came language performs old n block (ahead ++ more) first mid m next (left ++ more) after
  came_more old mid n m block next ahead left more first after c =
      record {
        lines = c.lines;
        met = λ ending rest. ap (lines_met ending) (append_assoc ahead more rest) ∙ c.met ending (more ++ rest)
            ∙ ap (λ (l : List ℕ). c.lines ++ lines_met ending l) (sym (append_assoc left more rest));
        took = c.took;
      }

  pub came_trans : (old mid new : S) (n m k : ℕ) (block next last : Place H) (ahead left right : List ℕ) (first after end : DeviceOutput (List ℕ))
      → Came language performs old n block ahead first mid m next left after → Came language performs mid m next left after new k last right end
      → Came language performs old n block ahead first new k last right end
  came_trans old mid new n m k block next last ahead left right first after end c d =
      record {
        lines = c.lines ++ d.lines;
        met = λ ending rest. c.met ending rest ∙ ap (λ (l : List (List ℕ)). c.lines ++ l) (d.met ending rest)
            ∙ sym (append_assoc c.lines d.lines (lines_met ending (right ++ rest)));
        took = took_trans language performs old mid new n m k block next last c.lines d.lines first after end c.took d.took;
      }

  -- a line that an LF ends
  line_ahead : (ending : Ending) (line following rest : List ℕ) → IsUnbroken line → lines_met ending ((line ++ 10 ∷ following) ++ rest) ≡ strip_carriage_return line ∷ lines_met ending (following ++ rest)
  line_ahead ending line following rest u = ap (lines_met ending) (append_assoc line (10 ∷ following) rest) ∙ line_met ending line (following ++ rest) u

  pub came_line : (old new : S) (n : ℕ) (block next : Place H) (line following : List ℕ) (before after : DeviceOutput (List ℕ))
      → IsUnbroken line → TakesLine performs (n + 1) (step_from language (n + 1) block (strip_carriage_return line)) old before (Ok tt) new after next
      → Came language performs old n block (line ++ 10 ∷ following) before new (n + 1) next following after
  came_line old new n block next line following before after u t =
      record {
        lines = strip_carriage_return line ∷ [];
        met = λ ending rest. line_ahead ending line following rest u;
        took = took_line language performs old new n block next (strip_carriage_return line) before after t;
      }

  -- ---- what was done before, and how the rest ended
  -- a run that stopped after what was done
  pub came_stopped : (old mid : S) (n m : ℕ) (block next : Place H) (ahead left : List ℕ) (fault : RunFault) (first after last : DeviceOutput (List ℕ))
      → Came language performs old n block ahead first mid m next left after → Stopped language performs mid m next left fault after last → Stopped language performs old n block ahead fault first last
  came_stopped old mid n m block next ahead left fault first after last c s =
      record {
        stops = λ ending rest. subst (λ (l : List (List ℕ)). Halts language performs old ending n block l fault first last) (sym (c.met ending rest))
            (halts_after language performs old mid n m block next c.lines (lines_met ending (left ++ rest)) ending fault first after last c.took (s.stops ending rest));
      }

  -- a line that could not be taken
  pub line_stopped : (old new : S) (n : ℕ) (block next : Place H) (line following : List ℕ) (fault : RunFault) (before after : DeviceOutput (List ℕ))
      → IsUnbroken line → TakesLine performs (n + 1) (step_from language (n + 1) block (strip_carriage_return line)) old before (Err fault) new after next
      → Stopped language performs old n block (line ++ 10 ∷ following) fault before after
  line_stopped old new n block next line following fault before after u t =
      record {
        stops = λ ending rest. subst (λ (l : List (List ℕ)). Halts language performs old ending n block l fault before after) (sym (line_ahead ending line following rest u))
            (stops_line language performs old new ending n block next (strip_carriage_return line) (lines_met ending (following ++ rest)) fault before after t);
      }

  -- bytes that are too long already
  long_script : (old : S) (ending : Ending) (n : ℕ) (block : Place H) (lines : List (List ℕ)) (before : DeviceOutput (List ℕ)) → BeginsLong lines
      → Halts language performs old ending n block lines (BadLine (n + 1)) before before
  unfolding Halts
  long_script old ending n block [] before h = absurd h
  long_script old ending n block (line ∷ lines) before h = own_fault language performs old ending n block line lines (BadLine (n + 1)) before before (no_step language (n + 1) block line h, refl)

  pub long_stopped : (old : S) (n : ℕ) (block : Place H) (bytes : List ℕ) (before : DeviceOutput (List ℕ)) → IsUnbroken bytes → is_too_long (strip_carriage_return bytes) ≡ true
      → Stopped language performs old n block bytes (BadLine (n + 1)) before before
  long_stopped old n block bytes before u h =
      record { stops = λ ending rest. long_script old ending n block (lines_met ending (bytes ++ rest)) before (begins_long ending bytes rest u h) }

  -- ---- the end
  pub finished : (old : S) (n : ℕ) (block : Place H) (part : List ℕ) (ending : Ending) (before : DeviceOutput (List ℕ)) (r : Result Summary RunFault)
      → IsUnbroken part → last_met ending part ≡ [] → MatchOption (fault_at_ending ending block) (IsOkAnd r (λ s. s.lines ≡ n)) (λ f. r ≡ Err f)
      → Closes language performs old ending n block (lines_met ending part) r before before
  finished old n block part ending before r u e h =
      subst (λ (l : List (List ℕ)). Closes language performs old ending n block l r before before) (sym (none_met ending part u ∙ e)) (ended language performs old ending n block r before h)

  pub finished_line : (old new : S) (n m : ℕ) (block next : Place H) (part line : List ℕ) (ending : Ending) (before after : DeviceOutput (List ℕ)) (r : Result Summary RunFault)
      → IsUnbroken part → last_met ending part ≡ line ∷ [] → TakesLine performs (n + 1) (step_from language (n + 1) block line) old before (Ok tt) new after next → m ≡ n + 1
      → MatchOption (fault_at_ending ending next) (IsOkAnd r (λ s. s.lines ≡ m)) (λ f. r ≡ Err f)
      → Closes language performs old ending n block (lines_met ending part) r before after
  finished_line old new n m block next part line ending before after r u e t k h =
      let last : Closes language performs new ending (n + 1) next [] r after after =
      subst (λ (i : ℕ). Closes language performs new ending i next [] r after after) k (ended language performs new ending m next r after h) in
      subst (λ (l : List (List ℕ)). Closes language performs old ending n block l r before after) (sym (none_met ending part u ∙ e))
      (closes_after language performs old new n (n + 1) block next (line ∷ []) [] ending r before after after (took_line language performs old new n block next line before after t) last)

  pub finished_badly : (old new : S) (n : ℕ) (block next : Place H) (part line : List ℕ) (ending : Ending) (before after : DeviceOutput (List ℕ)) (fault : RunFault)
      → IsUnbroken part → last_met ending part ≡ line ∷ [] → TakesLine performs (n + 1) (step_from language (n + 1) block line) old before (Err fault) new after next
      → Halts language performs old ending n block (lines_met ending part) fault before after
  finished_badly old new n block next part line ending before after fault u e t =
      subst (λ (l : List (List ℕ)). Halts language performs old ending n block l fault before after) (sym (none_met ending part u ∙ e))
      (stops_line language performs old new ending n block next line [] fault before after t)

  -- ---- what waits is written, or a front of it
  sent_flushed : (old : S) (actions : List A) (first : DeviceOutput (List ℕ)) (b c : List ℕ) (waits : List ℕ) → SentAll performs old actions first (device_output b waits) → Takes logs b c waits
      → SentAll performs old actions first (device_output c [])
  sent_flushed old actions first b c waits s w = record { text = s.text; new = s.new; runs = s.runs; written = sends_flushed logs first b c waits s.text s.written w }

  sent_front : (old : S) (actions : List A) (first : DeviceOutput (List ℕ)) (b c : List ℕ) (waits : List ℕ) → SentAll performs old actions first (device_output b waits) → TakesFront logs b c waits
      → SentSome performs old actions first (device_output c [])
  sent_front old actions first b c waits s w = record { text = s.text; new = s.new; runs = s.runs; written = front_flushed logs first b c waits [] s.text s.written w }

  all_front : (old : S) (actions : List A) (first : DeviceOutput (List ℕ)) (b c : List ℕ) (waits : List ℕ) → SentAll performs old actions first (device_output b waits) → TakesFront logs b c waits
      → SentSome performs old (take (length actions) actions) first (device_output c [])
  all_front old actions first b c waits s w =
      subst (λ (l : List A). SentSome performs old l first (device_output c [])) (sym (take_all (length actions) actions (omega arith))) (sent_front old actions first b c waits s w)

  halts_flushed : (old : S) (ending : Ending) (n : ℕ) (block : Place H) (lines : List (List ℕ)) (fault : RunFault) (first : DeviceOutput (List ℕ)) (b c : List ℕ) (waits : List ℕ) → (fault ≡ Write → ⊥)
      → Halts language performs old ending n block lines fault first (device_output b waits) → Takes logs b c waits → Halts language performs old ending n block lines fault first (device_output c [])
  unfolding Halts
  halts_flushed old ending n block lines Memory first b c waits not h w =
      record {
        line = h.line;
        within = h.within;
        led = h.led;
        good = h.good;
        own = h.own;
        left = h.left;
        asked = h.asked;
        done = sent_flushed old ((script_from language Failed (n + 1) block (take h.line lines)).actions ++ h.own) first b c waits h.done w;
      }
  halts_flushed old ending n block lines Write first b c waits not h w = absurd (not refl)
  halts_flushed old ending n block lines (BadLine m) first b c waits not h w = (h.0, sent_flushed old (script_from language ending (n + 1) block lines).actions first b c waits h.1 w)
  halts_flushed old ending n block lines (BadLook m) first b c waits not h w = (h.0, sent_flushed old (script_from language ending (n + 1) block lines).actions first b c waits h.1 w)
  halts_flushed old ending n block lines (Source m which) first b c waits not h w = (h.0, sent_flushed old (script_from language ending (n + 1) block lines).actions first b c waits h.1 w)
  halts_flushed old ending n block lines Read first b c waits not h w = (h.0, sent_flushed old (script_from language ending (n + 1) block lines).actions first b c waits h.1 w)
  halts_flushed old ending n block lines ReadBound first b c waits not h w = (h.0, sent_flushed old (script_from language ending (n + 1) block lines).actions first b c waits h.1 w)

  halts_front : (old : S) (ending : Ending) (n : ℕ) (block : Place H) (lines : List (List ℕ)) (fault : RunFault) (first : DeviceOutput (List ℕ)) (b c : List ℕ) (waits : List ℕ) → (fault ≡ Write → ⊥)
      → Halts language performs old ending n block lines fault first (device_output b waits) → TakesFront logs b c waits → Halts language performs old ending n block lines Write first (device_output c [])
  unfolding Halts
  halts_front old ending n block lines Memory first b c waits not h w =
      let done : List A = (script_from language Failed (n + 1) block (take h.line lines)).actions ++ h.own in (
        length done,
        subst (λ (l : List A). SentSome performs old l first (device_output c [])) (sym (part_first language ending (n + 1) block lines h.line h.own h.left h.asked)) (sent_front old done first b c waits h.done w),
      )
  halts_front old ending n block lines Write first b c waits not h w = absurd (not refl)
  halts_front old ending n block lines (BadLine m) first b c waits not h w = let all = (script_from language ending (n + 1) block lines).actions in (length all, all_front old all first b c waits h.1 w)
  halts_front old ending n block lines (BadLook m) first b c waits not h w = let all = (script_from language ending (n + 1) block lines).actions in (length all, all_front old all first b c waits h.1 w)
  halts_front old ending n block lines (Source m which) first b c waits not h w = let all = (script_from language ending (n + 1) block lines).actions in (length all, all_front old all first b c waits h.1 w)
  halts_front old ending n block lines Read first b c waits not h w = let all = (script_from language ending (n + 1) block lines).actions in (length all, all_front old all first b c waits h.1 w)
  halts_front old ending n block lines ReadBound first b c waits not h w = let all = (script_from language ending (n + 1) block lines).actions in (length all, all_front old all first b c waits h.1 w)

  pub stopped_flushed : (old : S) (n : ℕ) (block : Place H) (ahead : List ℕ) (fault : RunFault) (first : DeviceOutput (List ℕ)) (b c : List ℕ) (waits : List ℕ) → (fault ≡ Write → ⊥)
      → Stopped language performs old n block ahead fault first (device_output b waits) → Takes logs b c waits → Stopped language performs old n block ahead fault first (device_output c [])
  stopped_flushed old n block ahead fault first b c waits not s w =
      record { stops = λ ending rest. halts_flushed old ending n block (lines_met ending (ahead ++ rest)) fault first b c waits not (s.stops ending rest) w }

  pub stopped_front : (old : S) (n : ℕ) (block : Place H) (ahead : List ℕ) (fault : RunFault) (first : DeviceOutput (List ℕ)) (b c : List ℕ) (waits : List ℕ) → (fault ≡ Write → ⊥)
      → Stopped language performs old n block ahead fault first (device_output b waits) → TakesFront logs b c waits → Stopped language performs old n block ahead Write first (device_output c [])
  stopped_front old n block ahead fault first b c waits not s w =
      record { stops = λ ending rest. halts_front old ending n block (lines_met ending (ahead ++ rest)) fault first b c waits not (s.stops ending rest) w }

  -- after a failed write it doesn't matter what waits
  halts_write : (old : S) (ending : Ending) (n : ℕ) (block : Place H) (lines : List (List ℕ)) (first : DeviceOutput (List ℕ)) (b : List ℕ) (waits : List ℕ)
      → Halts language performs old ending n block lines Write first (device_output b waits) → Halts language performs old ending n block lines Write first (device_output b [])
  unfolding Halts
  halts_write old ending n block lines first b waits h = (h.0, record { text = h.1.text; new = h.1.new; runs = h.1.runs; written = h.1.written })

  pub stopped_write : (old : S) (n : ℕ) (block : Place H) (ahead : List ℕ) (first : DeviceOutput (List ℕ)) (b : List ℕ) (waits : List ℕ)
      → Stopped language performs old n block ahead Write first (device_output b waits) → Stopped language performs old n block ahead Write first (device_output b [])
  stopped_write old n block ahead first b waits s =
      record { stops = λ ending rest. halts_write old ending n block (lines_met ending (ahead ++ rest)) first b waits (s.stops ending rest) }

  took_flushed : (old mid : S) (n m : ℕ) (block next : Place H) (lines : List (List ℕ)) (first : DeviceOutput (List ℕ)) (b c : List ℕ) (waits : List ℕ)
      → Took language performs old n block lines first mid m next (device_output b waits) → Takes logs b c waits → Took language performs old n block lines first mid m next (device_output c [])
  took_flushed old mid n m block next lines first b c waits d w =
      record { done = d.done; text = d.text; runs = d.runs; written = sends_flushed logs first b c waits d.text d.written w; asks = d.asks; count = d.count }

  pub came_flushed : (old mid : S) (n m : ℕ) (block next : Place H) (ahead left : List ℕ) (first : DeviceOutput (List ℕ)) (b c : List ℕ) (waits : List ℕ)
      → Came language performs old n block ahead first mid m next left (device_output b waits) → Takes logs b c waits → Came language performs old n block ahead first mid m next left (device_output c [])
  came_flushed old mid n m block next ahead left first b c waits d w =
      record { lines = d.lines; met = d.met; took = took_flushed old mid n m block next d.lines first b c waits d.took w }

  took_front : (old mid : S) (n m : ℕ) (block next : Place H) (lines more : List (List ℕ)) (ending : Ending) (first : DeviceOutput (List ℕ)) (b c : List ℕ) (waits : List ℕ)
      → Took language performs old n block lines first mid m next (device_output b waits) → TakesFront logs b c waits → Halts language performs old ending n block (lines ++ more) Write first (device_output c [])
  unfolding Halts
  took_front old mid n m block next lines more ending first b c waits d w =
      let done = front (script_from language ending (n + 1) block (lines ++ more)) d.done (script_from language ending (m + 1) next more) (d.asks ending more) in (
        length d.done,
        record {
          text = d.text;
          new = mid;
          runs = subst (λ (l : List A). PerformsAll performs old l d.text mid) (sym done) d.runs;
          written = front_flushed logs first b c waits [] d.text d.written w;
        },
      )

  pub came_front : (old mid : S) (n m : ℕ) (block next : Place H) (ahead left : List ℕ) (first : DeviceOutput (List ℕ)) (b c : List ℕ) (waits : List ℕ)
      → Came language performs old n block ahead first mid m next left (device_output b waits) → TakesFront logs b c waits → Stopped language performs old n block ahead Write first (device_output c [])
  came_front old mid n m block next ahead left first b c waits d w =
      record {
        stops = λ ending rest. subst (λ (l : List (List ℕ)). Halts language performs old ending n block l Write first (device_output c [])) (sym (d.met ending rest))
            (took_front old mid n m block next d.lines (lines_met ending (left ++ rest)) ending first b c waits d.took w);
      }

  -- ---- where nothing waits
  all_written : (old : S) (actions : List A) (last : List ℕ) → SentAll performs old actions (device_output [] []) (device_output last []) → Wrote (◌≡◌ last) performs old actions
  all_written old actions last w = record { text = w.text; new = w.new; runs = w.runs; written = log_is [] last w.text (sends_written logs [] last w.text w.written) }

  pub stopped_written : (old : S) (ending : Ending) (bytes : List ℕ) (fault : RunFault) (last : List ℕ)
      → Halts language performs old ending 0 first_place (lines_met ending bytes) fault (device_output [] []) (device_output last []) → EndsScript language performs old ending bytes (Err fault) last
  unfolding EndsScript Halts script_in TakesFront
  stopped_written old ending bytes Memory last h =
      let number : 0 + h.line + 1 ≡ h.line + 1 = omega arith in
      record {
        line = h.line;
        within = h.within;
        led = h.led;
        good = λ bad. h.good (bad ∙ ap (λ (k : ℕ). let due : Option RunFault = Some (BadLine k) in due) (sym number));
        own = h.own;
        left = h.left;
        asked = h.asked;
        done = all_written old ((front_of language (lines_met ending bytes) h.line).actions ++ h.own) last h.done;
      }
  stopped_written old ending bytes Write last h =
      (h.0, record { text = h.1.text; new = h.1.new; runs = h.1.runs; written = (h.1.written.0, log_is [] last (take h.1.written.0 h.1.text) h.1.written.1) })
  stopped_written old ending bytes (BadLine n) last h = (h.0, all_written old (script_in language ending bytes).actions last h.1)
  stopped_written old ending bytes (BadLook n) last h = (h.0, all_written old (script_in language ending bytes).actions last h.1)
  stopped_written old ending bytes (Source n which) last h = (h.0, all_written old (script_in language ending bytes).actions last h.1)
  stopped_written old ending bytes Read last h = (h.0, all_written old (script_in language ending bytes).actions last h.1)
  stopped_written old ending bytes ReadBound last h = (h.0, all_written old (script_in language ending bytes).actions last h.1)

  ends_written : (old : S) (ending : Ending) (bytes : List ℕ) (answer : Result Summary RunFault) (last : List ℕ)
      → Closes language performs old ending 0 first_place (lines_met ending bytes) answer (device_output [] []) (device_output last []) → EndsScript language performs old ending bytes answer last
  unfolding EndsScript script_in
  ends_written old ending bytes (Ok s) last h = (h.0, omega (arith, h.1), all_written old (script_in language ending bytes).actions last h.2)
  ends_written old ending bytes (Err fault) last h = stopped_written old ending bytes fault last h

  pub ends_from : (start mid : S) (bytes part : List ℕ) (ending : Ending) (m : ℕ) (next : Place H) (answer : Result Summary RunFault) (after last : List ℕ)
      → Came language performs start 0 first_place bytes (device_output [] []) mid m next part (device_output after []) → Closes language performs mid ending m next (lines_met ending part) answer (device_output after []) (device_output last [])
      → EndsScript language performs start ending bytes answer last
  ends_from start mid bytes part ending m next answer after last c h =
      let met : lines_met ending bytes ≡ c.lines ++ lines_met ending part =
      ap (lines_met ending) (sym (append-nil bytes)) ∙ c.met ending [] ∙ ap (λ (l : List ℕ). c.lines ++ lines_met ending l) (append-nil part) in
      ends_written start ending bytes answer last
      (subst (λ (l : List (List ℕ)). Closes language performs start ending 0 first_place l answer (device_output [] []) (device_output last [])) (sym met)
      (closes_after language performs start mid 0 m first_place next c.lines (lines_met ending part) ending answer (device_output [] []) (device_output after []) (device_output last []) c.took h))

  -- ---- lines of a piece: bytes that were kept, and those in front of an LF
  ahead_of : (part rest bytes following : List ℕ) → rest ≡ bytes ++ 10 ∷ following → part ++ rest ≡ (part ++ bytes) ++ 10 ∷ following
  ahead_of part rest bytes following e = ap (λ l. part ++ l) e ∙ sym (append_assoc part bytes (10 ∷ following))

  pub piece_line_stopped : (old mid new : S) (n m : ℕ) (block next last : Place H) (ahead part rest bytes following : List ℕ) (fault : RunFault) (first after end : DeviceOutput (List ℕ))
      → Came language performs old n block ahead first mid m next (part ++ rest) after → rest ≡ bytes ++ 10 ∷ following → IsUnbroken part → IsUnbroken bytes
      → TakesLine performs (m + 1) (step_from language (m + 1) next (strip_carriage_return (part ++ bytes))) mid after (Err fault) new end last
      → Stopped language performs old n block ahead fault first end
  piece_line_stopped old mid new n m block next last ahead part rest bytes following fault first after end c e u v t =
      came_stopped old mid n m block next ahead ((part ++ bytes) ++ 10 ∷ following) fault first after end
      (subst (λ (l : List ℕ). Came language performs old n block ahead first mid m next l after) (ahead_of part rest bytes following e) c)
      (line_stopped mid new m next last (part ++ bytes) following fault after end (unbroken_append part bytes u v) t)

  pub piece_line : (old mid new : S) (n m k : ℕ) (block next last : Place H) (ahead part rest bytes following empty : List ℕ) (first after end : DeviceOutput (List ℕ))
      → Came language performs old n block ahead first mid m next (part ++ rest) after → rest ≡ bytes ++ 10 ∷ following → IsUnbroken part → IsUnbroken bytes
      → TakesLine performs (m + 1) (step_from language (m + 1) next (strip_carriage_return (part ++ bytes))) mid after (Ok tt) new end last → k ≡ m + 1 → empty ≡ []
      → Came language performs old n block ahead first new k last (empty ++ following) end
  piece_line old mid new n m k block next last ahead part rest bytes following empty first after end c e u v t lines none =
      subst (λ (i : ℕ). Came language performs old n block ahead first new i last (empty ++ following) end) (sym lines)
      (subst (λ (l : List ℕ). Came language performs old n block ahead first new (m + 1) last (l ++ following) end) (sym none)
      (came_trans old mid new n m (m + 1) block next last ahead ((part ++ bytes) ++ 10 ∷ following) following first after end
      (subst (λ (l : List ℕ). Came language performs old n block ahead first mid m next l after) (ahead_of part rest bytes following e) c)
      (came_line mid new m next last (part ++ bytes) following after end (unbroken_append part bytes u v) t)))
