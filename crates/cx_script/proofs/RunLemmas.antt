-- A run of a script, line by line.
use Rattle.std.proofs.Common.{◌≡◌, ℕ, ◌+◌, List, [], ◌∷◌, ◌++◌, length, take, None, Some, Option, Result, Ok, Err, MatchOption, IsOkAnd, refl, sym, ap, ◌∙◌, subst, append-nil, append_assoc, arith, length-append}
use Rattle.std.proofs.Math.Seq.{take-append-add, take-append_seam}
use Rattle.cx_script_io.specs.Devices.{DeviceOutput, Sends}
use Rattle.cx_script_io.specs.Facts.Devices.{sends_front, sends_nil, sends_trans}
use Rattle.cx_script.specs.declared.run.Place.{Place}
use Rattle.cx_script.specs.Facts.Fronts.{seam}
use Rattle.cx_script_blocks.specs.declared.blocks.Block.{Block}
use Rattle.cx_script.specs.Script.{Script, Step, end_fault, script_from, step_from, fault_at_ending, led_to, with_actions_first}
use Rattle.cx_script_blocks.specs.declared.faults.Summary.{Summary}
use Rattle.cx_script.specs.Transcript.{PerformsAll}
use Rattle.cx_script.specs.Parts.Progress.{Closes, DoneOf, HaltedAt, Halts, SentAll, SentSome, TakesLine, Took, actions_due, logs}
use Rattle.cx_script_actions.specs.Language.{Language}
use Rattle.cx_script_blocks.specs.declared.faults.RunFault.{RunFault}
use Rattle.cx_script_blocks.specs.declared.faults.RunFault.TheVariants.{BadLine, BadLook, Source, Read, Write, Memory, ReadBound}
use Rattle.cx_script_io.specs.declared.input.Ending.{Ending}
use Rattle.cx_script_io.specs.declared.input.Ending.TheVariants.{AtEnd, Failed, PastBound}
use Rattle.cx_script.proofs.FaultLemmas.{fault_before}

after_append : {A : Type 0} (a b : List A) (s : Script A) → with_actions_first a (with_actions_first b s) ≡ with_actions_first (a ++ b) s
after_append {A} a b s = ap (λ (l : List A). let r : Script A = record { actions = l; fault = s.fault } in r) (sym (append_assoc a b s.actions))

-- where a line leads to a step, or to a fault
led : {A H : Type 0} (due : Result (Step A H) RunFault) (step : Step A H) (next : Place H → Script A) → due ≡ Ok step → led_to due next ≡ with_actions_first step.actions (next step.place)
led due step next e = ap (λ d. led_to d next) e

not_led : {A H : Type 0} (due : Result (Step A H) RunFault) (fault : RunFault) (next : Place H → Script A) → due ≡ Err fault → led_to due next ≡ record { actions = []; fault = Some fault }
not_led due fault next e = ap (λ d. led_to d next) e

-- a bad line before and after which there is no fault
only_bad : {A H : Type 0} (number : ℕ) (due : Result (Step A H) RunFault) (next : Place H → Script A) → ((block : Place H) → (next block).fault ≡ Some Read) → (led_to due next).fault ≡ Some (BadLine number)
    → due ≡ Err (BadLine number)
only_bad number (Err fault) next h e = let same : fault ≡ BadLine number = cc in ap Err same
only_bad number (Ok step) next h e =
    let read : Some Read ≡ Some (BadLine number) = sym (h step.place) ∙ sym (fault_before step.actions (next step.place)) ∙ e in cc

-- a line's own actions are the first of those that it leads to
begins : {A H : Type 0} (due : Result (Step A H) RunFault) (next : Place H → Script A) → (rest : List A) × ((led_to due next).actions ≡ actions_due due ++ rest)
begins (Err fault) next = ([], refl)
begins (Ok step) next = ((next step.place).actions, refl)

own_actions : {A H : Type 0} (due : Result (Step A H) RunFault) (next : Place H → Script A) → ((place : Place H) → (next place).actions ≡ []) → (led_to due next).actions ≡ actions_due due
own_actions (Err fault) next h = refl
own_actions {A} {H} (Ok step) next h = ap (λ (l : List A). step.actions ++ l) (h step.place) ∙ append-nil step.actions

-- what is done is a front of the script's actions
pub front : {A : Type 0} (script : Script A) (done : List A) (left : Script A) → script ≡ with_actions_first done left → take (length done) script.actions ≡ done
front {A} script done left e = ap (λ (s : Script A). take (length done) s.actions) e ∙ take-append_seam done left.actions

more_of : {A : Type 0} (script left : Script A) (done : List A) (k : ℕ) → script ≡ with_actions_first done left → done ++ take k left.actions ≡ take (length done + k) script.actions
more_of {A} script left done k e = sym (take-append-add done left.actions k) ∙ ap (λ (s : Script A). take (length done + k) s.actions) (sym e)

module _ {A H S : Type 0} (language : Language A H) (performs : S → A → List ℕ → S → Type 0) where
  pub runs_one : (old : S) (action : A) (text : List ℕ) (new : S) → performs old action text new → PerformsAll performs old (action ∷ []) text new
  unfolding PerformsAll
  runs_one old action text new p = (new, text, [], p, (refl, refl), sym (append-nil text))

  pub runs_append : (old : S) (xs : List A) (s : List ℕ) (mid : S) (ys : List A) (t : List ℕ) (new : S)
      → PerformsAll performs old xs s mid → PerformsAll performs mid ys t new → PerformsAll performs old (xs ++ ys) (s ++ t) new
  unfolding PerformsAll
  runs_append old [] s mid ys t new p q = subst (λ m. PerformsAll performs m ys (s ++ t) new) p.1 (subst (λ l. PerformsAll performs mid ys (l ++ t) new) (sym p.0) q)
  runs_append old (x ∷ xs) s mid ys t new p q =
      (p.0, p.1, p.2 ++ t, p.3, runs_append p.0 xs p.2 mid ys t new p.4 q, ap (λ l. l ++ t) p.5 ∙ append_assoc p.1 p.2 t)

  -- where nothing is asked
  sent_none : (old : S) (actions : List A) (before after : DeviceOutput (List ℕ)) → actions ≡ [] → after ≡ before → SentAll performs old actions before after
  unfolding PerformsAll
  sent_none old actions before after e same =
      subst (SentAll performs old actions before) (sym same)
      (record { text = []; new = old; runs = subst (λ (l : List A). PerformsAll performs old l [] old) (sym e) (refl, refl); written = sends_nil logs before })

  -- ---- lines that are done
  pub took_none : (old : S) (n : ℕ) (block : Place H) (w : DeviceOutput (List ℕ)) → Took language performs old n block [] w old n block w
  unfolding PerformsAll
  took_none old n block w = record { done = []; text = []; runs = (refl, refl); written = sends_nil logs w; asks = λ ending more. refl; count = omega arith }

  pub took_line : (old new : S) (n : ℕ) (block next : Place H) (line : List ℕ) (before after : DeviceOutput (List ℕ))
      → TakesLine performs (n + 1) (step_from language (n + 1) block line) old before (Ok tt) new after next → Took language performs old n block (line ∷ []) before new (n + 1) next after
  unfolding TakesLine script_from
  took_line old new n block next line before after t =
      let step = t.0 in
      record {
        done = step.actions;
        text = t.3;
        runs = t.4;
        written = t.5;
        asks = λ ending more. led (step_from language (n + 1) block line) step (λ b. script_from language ending (n + 1 + 1) b more) t.1
            ∙ ap (λ b. with_actions_first step.actions (script_from language ending (n + 1 + 1) b more)) (sym t.2);
        count = omega arith;
      }

  pub took_trans : (old mid new : S) (n m k : ℕ) (block next last : Place H) (lines more : List (List ℕ)) (first after end : DeviceOutput (List ℕ))
      → Took language performs old n block lines first mid m next after → Took language performs mid m next more after new k last end → Took language performs old n block (lines ++ more) first new k last end
  took_trans old mid new n m k block next last lines more first after end c d =
      record {
        done = c.done ++ d.done;
        text = c.text ++ d.text;
        runs = runs_append old c.done c.text mid d.done d.text new c.runs d.runs;
        written = sends_trans logs first after end c.text d.text c.written d.written;
        asks = λ ending others. ap (λ (l : List (List ℕ)). script_from language ending (n + 1) block l) (append_assoc lines more others) ∙ c.asks ending (more ++ others)
            ∙ ap (with_actions_first c.done) (d.asks ending others) ∙ after_append c.done d.done (script_from language ending (k + 1) last others);
        count = omega (arith, length-append lines more, c.count, d.count);
      }

  -- ---- what was done before, and how the rest ended
  sent_after : (old mid : S) (done actions : List A) (text : List ℕ) (first after last : DeviceOutput (List ℕ)) → PerformsAll performs old done text mid → Sends logs first after text
      → SentAll performs mid actions after last → SentAll performs old (done ++ actions) first last
  sent_after old mid done actions text first after last r a w =
      record { text = text ++ w.text; new = w.new; runs = runs_append old done text mid actions w.text w.new r w.runs; written = sends_trans logs first after last text w.text a w.written }

  all_after : (old mid : S) (script left : Script A) (done : List A) (text : List ℕ) (first after last : DeviceOutput (List ℕ)) → script ≡ with_actions_first done left
      → PerformsAll performs old done text mid → Sends logs first after text → SentAll performs mid left.actions after last → SentAll performs old script.actions first last
  all_after old mid script left done text first after last e r a w =
      subst (λ (l : List A). SentAll performs old l first last) (sym (ap (λ (s : Script A). s.actions) e)) (sent_after old mid done left.actions text first after last r a w)

  some_after : (old mid : S) (done actions : List A) (text : List ℕ) (first after last : DeviceOutput (List ℕ)) → PerformsAll performs old done text mid → Sends logs first after text
      → SentSome performs mid actions after last → SentSome performs old (done ++ actions) first last
  some_after old mid done actions text first after last r a w =
      record { text = text ++ w.text; new = w.new; runs = runs_append old done text mid actions w.text w.new r w.runs; written = sends_front logs first after last text w.text a w.written }

  own_after : (old mid : S) (script left : Script A) (done : List A) (text : List ℕ) (fault : RunFault) (first after last : DeviceOutput (List ℕ)) → script ≡ with_actions_first done left
      → PerformsAll performs old done text mid → Sends logs first after text → (left.fault ≡ Some fault) × SentAll performs mid left.actions after last
      → (script.fault ≡ Some fault) × SentAll performs old script.actions first last
  own_after old mid script left done text fault first after last e r a s =
      (ap (λ (x : Script A). x.fault) e ∙ s.0, all_after old mid script left done text first after last e r a s.1)

  halted_after : (old mid : S) (n m : ℕ) (block next : Place H) (lines more : List (List ℕ)) (first after last : DeviceOutput (List ℕ))
      → Took language performs old n block lines first mid m next after → HaltedAt language performs mid m next more after last → HaltedAt language performs old n block (lines ++ more) first last
  halted_after old mid n m block next lines more first after last c h =
      let here = take-append-add lines more h.line in
      let there : take (length lines + h.line + 1) (lines ++ more) ≡ lines ++ take (h.line + 1) more =
      ap (λ k. take k (lines ++ more)) (let same : length lines + h.line + 1 ≡ length lines + (h.line + 1) = omega arith in same) ∙ take-append-add lines more (h.line + 1) in
      let asked = ap (λ (l : List (List ℕ)). script_from language Failed (n + 1) block l) here ∙ c.asks Failed (take h.line more) in
      let with_it = ap (λ (l : List (List ℕ)). script_from language Failed (n + 1) block l) there ∙ c.asks Failed (take (h.line + 1) more) in
      let number : n + (length lines + h.line) + 1 ≡ m + h.line + 1 = omega (arith, c.count) in
      let front : List A = (script_from language Failed (m + 1) next (take h.line more)).actions in
      let done : c.done ++ (front ++ h.own) ≡ (script_from language Failed (n + 1) block (take (length lines + h.line) (lines ++ more))).actions ++ h.own =
      sym (append_assoc c.done front h.own) ∙ ap (λ (l : List A). l ++ h.own) (sym (ap (λ (s : Script A). s.actions) asked)) in
      record {
        line = length lines + h.line;
        within = omega (arith, h.within, length-append lines more);
        led = ap (λ (s : Script A). s.fault) asked ∙ h.led;
        good = λ bad. h.good (sym (ap (λ (s : Script A). s.fault) with_it) ∙ bad ∙ ap (λ (k : ℕ). let due : Option RunFault = Some (BadLine k) in due) number);
        own = h.own;
        left = h.left;
        asked = ap (λ (s : Script A). s.actions) with_it ∙ ap (λ (l : List A). c.done ++ l) h.asked ∙ sym (append_assoc c.done (front ++ h.own) h.left) ∙ ap (λ (l : List A). l ++ h.left) done;
        done = subst (λ (l : List A). SentAll performs old l first last) done (sent_after old mid c.done (front ++ h.own) c.text first after last c.runs c.written h.done);
      }

  pub halts_after : (old mid : S) (n m : ℕ) (block next : Place H) (lines more : List (List ℕ)) (ending : Ending) (fault : RunFault) (first after last : DeviceOutput (List ℕ))
      → Took language performs old n block lines first mid m next after → Halts language performs mid ending m next more fault after last → Halts language performs old ending n block (lines ++ more) fault first last
  unfolding Halts
  halts_after old mid n m block next lines more ending Memory first after last c s = halted_after old mid n m block next lines more first after last c s
  halts_after old mid n m block next lines more ending Write first after last c s =
      let left = script_from language ending (m + 1) next more in (
        length c.done + s.0,
        subst (λ (l : List A). SentSome performs old l first last) (more_of (script_from language ending (n + 1) block (lines ++ more)) left c.done s.0 (c.asks ending more))
            (some_after old mid c.done (take s.0 left.actions) c.text first after last c.runs c.written s.1),
      )
  halts_after old mid n m block next lines more ending (BadLine i) first after last c s =
      own_after old mid (script_from language ending (n + 1) block (lines ++ more)) (script_from language ending (m + 1) next more) c.done c.text (BadLine i) first after last (c.asks ending more) c.runs c.written s
  halts_after old mid n m block next lines more ending (BadLook i) first after last c s =
      own_after old mid (script_from language ending (n + 1) block (lines ++ more)) (script_from language ending (m + 1) next more) c.done c.text (BadLook i) first after last (c.asks ending more) c.runs c.written s
  halts_after old mid n m block next lines more ending (Source i which) first after last c s =
      own_after old mid (script_from language ending (n + 1) block (lines ++ more)) (script_from language ending (m + 1) next more) c.done c.text (Source i which) first after last (c.asks ending more) c.runs c.written s
  halts_after old mid n m block next lines more ending Read first after last c s =
      own_after old mid (script_from language ending (n + 1) block (lines ++ more)) (script_from language ending (m + 1) next more) c.done c.text Read first after last (c.asks ending more) c.runs c.written s
  halts_after old mid n m block next lines more ending ReadBound first after last c s =
      own_after old mid (script_from language ending (n + 1) block (lines ++ more)) (script_from language ending (m + 1) next more) c.done c.text ReadBound first after last (c.asks ending more) c.runs c.written s

  pub closes_after : (old mid : S) (n m : ℕ) (block next : Place H) (lines more : List (List ℕ)) (ending : Ending) (answer : Result Summary RunFault) (first after last : DeviceOutput (List ℕ))
      → Took language performs old n block lines first mid m next after → Closes language performs mid ending m next more answer after last → Closes language performs old ending n block (lines ++ more) answer first last
  closes_after old mid n m block next lines more ending (Ok summary) first after last c h =
      let e = c.asks ending more in (
        ap (λ (x : Script A). x.fault) e ∙ h.0,
        omega (arith, h.1, length-append lines more, c.count),
        all_after old mid (script_from language ending (n + 1) block (lines ++ more)) (script_from language ending (m + 1) next more) c.done c.text first after last e c.runs c.written h.2,
      )
  closes_after old mid n m block next lines more ending (Err fault) first after last c h = halts_after old mid n m block next lines more ending fault first after last c h

  -- ---- a line that wasn't taken
  pub own_fault : (old : S) (ending : Ending) (n : ℕ) (block : Place H) (line : List ℕ) (lines : List (List ℕ)) (fault : RunFault) (before after : DeviceOutput (List ℕ))
      → (step_from language (n + 1) block line ≡ Err fault) × (after ≡ before)
      → ((script_from language ending (n + 1) block (line ∷ lines)).fault ≡ Some fault) × SentAll performs old (script_from language ending (n + 1) block (line ∷ lines)).actions before after
  unfolding script_from
  own_fault old ending n block line lines fault before after t =
      let bad = not_led (step_from language (n + 1) block line) fault (λ b. script_from language ending (n + 1 + 1) b lines) t.0 in
      (ap (λ (s : Script A). s.fault) bad, sent_none old (script_from language ending (n + 1) block (line ∷ lines)).actions before after (ap (λ (s : Script A). s.actions) bad) t.1)

  without_memory : (old : S) (n : ℕ) (block : Place H) (line : List ℕ) (lines : List (List ℕ)) (before after : DeviceOutput (List ℕ))
      → (step_from language (n + 1) block line ≡ Err (BadLine (n + 1)) → ⊥) × DoneOf (λ own. SentAll performs old own before after) (actions_due (step_from language (n + 1) block line))
      → HaltedAt language performs old n block (line ∷ lines) before after
  unfolding script_from fault_at_ending
  without_memory old n block line lines before after t =
      let number : n + 0 + 1 ≡ n + 1 = omega arith in
      let next : Place H → Script A = λ b. script_from language Failed (n + 1 + 1) b [] in
      record {
        line = 0;
        within = omega arith;
        led = refl;
        good = λ bad. t.0 (only_bad (n + 1) (step_from language (n + 1) block line) next (λ b. refl)
            (bad ∙ ap (λ (k : ℕ). let due : Option RunFault = Some (BadLine k) in due) number));
        own = t.1.own;
        left = t.1.left;
        asked = own_actions (step_from language (n + 1) block line) next (λ b. refl) ∙ t.1.asked;
        done = t.1.sent;
      }

  unwritten_line : (old : S) (ending : Ending) (n : ℕ) (block : Place H) (line : List ℕ) (lines : List (List ℕ)) (before after : DeviceOutput (List ℕ))
      → DoneOf (λ own. SentSome performs old own before after) (actions_due (step_from language (n + 1) block line))
      → (k : ℕ) × SentSome performs old (take k (script_from language ending (n + 1) block (line ∷ lines)).actions) before after
  unfolding script_from
  unwritten_line old ending n block line lines before after d =
      let b = begins (step_from language (n + 1) block line) (λ next. script_from language ending (n + 1 + 1) next lines) in
      let first = seam (script_from language ending (n + 1) block (line ∷ lines)).actions d.own d.left b.0 (b.1 ∙ ap (λ (l : List A). l ++ b.0) d.asked) in
      (length d.own, subst (λ (l : List A). SentSome performs old l before after) (sym first) d.sent)

  pub stops_line : (old new : S) (ending : Ending) (n : ℕ) (block next : Place H) (line : List ℕ) (lines : List (List ℕ)) (fault : RunFault) (before after : DeviceOutput (List ℕ))
      → TakesLine performs (n + 1) (step_from language (n + 1) block line) old before (Err fault) new after next → Halts language performs old ending n block (line ∷ lines) fault before after
  unfolding TakesLine Halts
  stops_line old new ending n block next line lines (BadLine m) before after t = own_fault old ending n block line lines (BadLine m) before after t
  stops_line old new ending n block next line lines (BadLook m) before after t = own_fault old ending n block line lines (BadLook m) before after t
  stops_line old new ending n block next line lines (Source m which) before after t = own_fault old ending n block line lines (Source m which) before after t
  stops_line old new ending n block next line lines Memory before after t = without_memory old n block line lines before after t
  stops_line old new ending n block next line lines Write before after t = unwritten_line old ending n block line lines before after t
  stops_line old new ending n block next line lines Read before after t = own_fault old ending n block line lines Read before after t
  stops_line old new ending n block next line lines ReadBound before after t = own_fault old ending n block line lines ReadBound before after t

  -- ---- where no line is left
  ended_by : (old : S) (n : ℕ) (block : Option (Block H)) (bad_look : Option ℕ) (answer : Result Summary RunFault) (w : DeviceOutput (List ℕ))
      → MatchOption (end_fault block bad_look) (IsOkAnd answer (λ s. s.lines ≡ n)) (λ fault. answer ≡ Err fault)
      → (let place : Place H = record { block = block; bad_look = bad_look } in Closes language performs old AtEnd n place [] answer w w)
  unfolding script_from fault_at_ending Halts
  ended_by old n None None (Ok s) w h = (refl, omega (arith, h), sent_none old [] w w refl refl)
  ended_by old n None None (Err fault) w h = absurd h
  ended_by old n None (Some line) (Ok s) w h = cc
  ended_by old n None (Some line) (Err fault) w h =
      let place : Place H = record { block = None; bad_look = Some line } in
      let same : BadLook line ≡ fault = cc in
      subst (λ f. Halts language performs old AtEnd n place [] f w w) same (refl, sent_none old [] w w refl refl)
  ended_by old n (Some block) bad_look (Ok s) w h = cc
  ended_by old n (Some block) bad_look (Err fault) w h =
      let place : Place H = record { block = Some block; bad_look = bad_look } in
      let same : BadLine (block.line) ≡ fault = cc in
      subst (λ f. Halts language performs old AtEnd n place [] f w w) same (refl, sent_none old [] w w refl refl)

  pub ended : (old : S) (ending : Ending) (n : ℕ) (block : Place H) (answer : Result Summary RunFault) (w : DeviceOutput (List ℕ))
      → MatchOption (fault_at_ending ending block) (IsOkAnd answer (λ s. s.lines ≡ n)) (λ fault. answer ≡ Err fault) → Closes language performs old ending n block [] answer w w
  unfolding script_from fault_at_ending Halts
  ended old AtEnd n block answer w h = ended_by old n block.block block.bad_look answer w h
  ended old Failed n block (Ok s) w h = cc
  ended old Failed n block (Err fault) w h =
      let same : Read ≡ fault = cc in subst (λ f. Halts language performs old Failed n block [] f w w) same (refl, sent_none old [] w w refl refl)
  ended old PastBound n block (Ok s) w h = cc
  ended old PastBound n block (Err fault) w h =
      let same : ReadBound ≡ fault = cc in subst (λ f. Halts language performs old PastBound n block [] f w w) same (refl, sent_none old [] w w refl refl)
