-- A run of a script, from what was read.
use Rattle.std.proofs.Common.{◌≡◌, ℕ, ◌+◌, ◌-◌, ◌<◌, ◌≤◌, ◌⊎◌, inl, inr, Bool, true, false, cond, List, [], ◌∷◌, ◌++◌, length, map, take, drop, None, Some, Option, Result, Err, nat_lt, refl, sym, ap, ◌∙◌, subst, append-nil, append_assoc, arith, length-append, length-drop}
use Rattle.std.specs.List.{FoldsTo}
use Rattle.std.specs.Option.{option_or}
use Rattle.std.specs.Str.Lines.{strip_carriage_return}
use Rattle.std.proofs.lemmas.Grind.{common_steps}
use Rattle.std.proofs.lemmas.List.{length-take-le, take-append-drop, take_all}
use Rattle.std.proofs.Math.Seq.{take-append_seam}
use borrow.Author.Tests.{ltb-true, ltb-false}
use Rattle.cx_script_actions.specs.Language.{Language}
use Rattle.cx_script.specs.declared.run.Place.{Place}
use Rattle.cx_script_blocks.specs.declared.faults.RunFault.{RunFault}
use Rattle.cx_script_blocks.specs.declared.faults.RunFault.TheVariants.{Read}
use Rattle.cx_script_blocks.specs.declared.faults.Summary.{Summary}
use Rattle.cx_script_io.specs.Calls.{DeviceCall, Reading, Writing, did, given, last_read, taken}
use Rattle.cx_script_io.specs.Devices.{device_output}
use Rattle.cx_script_io.specs.Input.{IsEnding, most_bytes}
use Rattle.cx_script_io.specs.Lines.{is_too_long, last_met, lines_met}
use Rattle.cx_script_io.specs.Unbroken.{IsUnbroken}
use Rattle.cx_script_io.specs.declared.input.Ending.{Ending}
use Rattle.cx_script_io.specs.declared.input.Ending.TheVariants.{AtEnd, Failed, PastBound}
use Rattle.cx_script_io.specs.Facts.Calls.{did_writes, folds_append, given_append, given_writes, last_append, last_writes, taken_append}
use Rattle.cx_script.specs.Parts.Progress.{Calling, Came, Closes, Halts, InTime, SeenSoFar, Stopped}
use Rattle.cx_script.specs.Script.{fault_at_ending, first_place}
use Rattle.cx_script.specs.Session.{RanIn}
use Rattle.cx_script.specs.Transcript.{EndsScript}
use Rattle.cx_script.proofs.PieceLemmas.{came_more, came_start, came_stopped, came_trans, ends_from, finished, stopped_written}

-- ---- a place in two lists, one after the other
heads : {X : Type 0} (x y : X) (xs ys : List X) → x ∷ xs ≡ y ∷ ys → (x ≡ y) × (xs ≡ ys)
heads x y xs ys e = (cc, cc)

joined : {X : Type 0} (x y : X) (xs ys : List X) → x ≡ y → xs ≡ ys → x ∷ xs ≡ y ∷ ys
joined x y xs ys e f = cc

split_append : {X : Type 0} (xs ys before after : List X) (x : X) → xs ++ ys ≡ before ++ x ∷ after
    → ((rest : List X) × (xs ≡ before ++ x ∷ rest)) ⊎ ((more : List X) × (before ≡ xs ++ more) × (ys ≡ more ++ x ∷ after))
split_append [] ys before after x e = inr (before, refl, e)
split_append (y ∷ xs) ys [] after x e = let h = heads y x (xs ++ ys) after e in inl (xs, joined y x xs xs h.0 refl)
split_append (y ∷ xs) ys (z ∷ before) after x e =
    let h = heads y z (xs ++ ys) (before ++ x ∷ after) e in
    elim (split_append xs ys before after x h.1) [
      | inl p ↦ inl (p.0, joined y z xs (before ++ x ∷ p.0) h.0 p.1)
      | inr q ↦ inr (q.0, joined z y before (xs ++ q.0) (sym h.0) q.1, q.2)
    ]

-- writes are no reads
no_reads : (ms : List (Option (List ℕ))) (before after : List DeviceCall) (bytes : Option (List ℕ)) → map Writing ms ≡ before ++ Reading bytes ∷ after → ⊥
no_reads [] [] after bytes e = cc
no_reads [] (z ∷ before) after bytes e = cc
no_reads (m ∷ ms) [] after bytes e = cc
no_reads (m ∷ ms) (z ∷ before) after bytes e = no_reads ms before after bytes (heads (Writing m) z (map Writing ms) (before ++ Reading bytes ∷ after) e).1

-- one read and some writes, and the only read is the first of them
only_read : (first : Option (List ℕ)) (ms : List (Option (List ℕ))) (more after : List DeviceCall) (bytes : Option (List ℕ)) → Reading first ∷ map Writing ms ≡ more ++ Reading bytes ∷ after → more ≡ []
only_read first ms [] after bytes e = refl
only_read first ms (z ∷ more) after bytes e = absurd (no_reads ms more after bytes (heads (Reading first) z (map Writing ms) (more ++ Reading bytes ∷ after) e).1)

-- ---- calls, and one read and some writes after them
abbrev then_read : List DeviceCall → Option (List ℕ) → List (Option (List ℕ)) → List DeviceCall
then_read calls bytes ms = calls ++ Reading bytes ∷ map Writing ms

then_given : (calls : List DeviceCall) (bytes : List ℕ) (ms : List (Option (List ℕ))) → given (then_read calls (Some bytes) ms) ≡ given calls ++ bytes
then_given calls bytes ms = given_append calls (Reading (Some bytes) ∷ map Writing ms) ∙ ap (λ l. given calls ++ (bytes ++ l)) (given_writes ms) ∙ ap (λ l. given calls ++ l) (append-nil bytes)

then_failed : (calls : List DeviceCall) (ms : List (Option (List ℕ))) → given (then_read calls None ms) ≡ given calls
then_failed calls ms = given_append calls (Reading None ∷ map Writing ms) ∙ ap (λ l. given calls ++ l) (given_writes ms) ∙ append-nil (given calls)

then_taken : (calls : List DeviceCall) (bytes : Option (List ℕ)) (ms : List (Option (List ℕ))) → taken (then_read calls bytes ms) ≡ taken calls ++ taken (map Writing ms)
then_taken calls bytes ms = taken_append calls (Reading bytes ∷ map Writing ms)

then_last : (calls : List DeviceCall) (bytes : Option (List ℕ)) (ms : List (Option (List ℕ))) → last_read (then_read calls bytes ms) ≡ Some bytes
then_last calls bytes ms =
    last_append calls (Reading bytes ∷ map Writing ms) ∙ ap (λ o. option_or (option_or o (Some bytes)) (last_read calls)) (last_writes ms)

-- ---- the most that a script may have
cut_by : (most : ℕ) (seen extra : List ℕ) (more : Bool) (room took : ℕ) → nat_lt room took ≡ more → length seen ≤ most → (room < took → length seen ≡ most) → length extra ≡ took - room
    → take most (seen ++ extra) ≡ seen
cut_by most seen extra true room took b few full len =
    ap (λ k. take k (seen ++ extra)) (sym (full (ltb-true room took b))) ∙ take-append_seam seen extra
cut_by most seen extra false room took b few full len =
    let less = ltb-false room took b in
    let none : length extra ≡ 0 = omega (arith, len, less) in
    ap (take most) (ap (λ l. seen ++ l) (empty extra none) ∙ append-nil seen) ∙ take_all most seen few
  where
    empty : (l : List ℕ) → length l ≡ 0 → l ≡ []
    empty [] e = refl
    empty (x ∷ l) e = absurd (omega (arith, e))

cut_piece : (most : ℕ) (seen buffer piece : List ℕ) (read took room : ℕ) → length seen ≡ read → piece ≡ take room buffer → room ≤ took → took ≤ length buffer → read + room ≤ most
    → (room < took → read + room ≡ most) → take most (seen ++ take took buffer) ≡ seen ++ piece
cut_piece most seen buffer piece read took room s e less few bound full =
    let bytes = take took buffer in
    let extra = drop room bytes in
    let front : take room bytes ≡ take room buffer = grind (arith, common_steps) in
    let whole : bytes ≡ piece ++ extra = sym (take-append-drop room bytes) ∙ ap (λ l. l ++ extra) (front ∙ sym e) in
    let size : length piece ≡ room = ap length e ∙ length-take-le room buffer (omega arith) in
    let len : length (seen ++ piece) ≡ read + room = omega (arith, length-append seen piece, s, size) in
    let past : length extra ≡ took - room = omega (arith, length-drop room bytes, length-take-le took buffer few) in
    ap (take most) (ap (λ l. seen ++ l) whole ∙ sym (append_assoc seen piece extra))
    ∙ cut_by most (seen ++ piece) extra (nat_lt room took) room took refl (omega (arith, len, bound)) (λ h. len ∙ full h) past

-- ---- where the reads say nothing yet
nothing : (why : Ending) → IsEnding [] why → ⊥
unfolding most_bytes
nothing AtEnd h = cc
nothing Failed h = cc
nothing PastBound h = omega (arith, h)

no_ending : (calls : List DeviceCall) (bytes : List ℕ) → last_read calls ≡ Some (Some bytes) → (bytes ≡ [] → ⊥) → length (given calls) ≤ 16777216 → (why : Ending) → IsEnding calls why → ⊥
unfolding most_bytes
no_ending calls bytes l some few AtEnd h = let same = sym l ∙ h in some cc
no_ending calls bytes l some few Failed h = let same = sym l ∙ h in cc
no_ending calls bytes l some few PastBound h = omega (arith, h, few)

module _ {A H S : Type 0} (language : Language A H) (performs : S → A → List ℕ → S → Type 0) where
  -- what is due before a read, at each of these calls and after them
  due_first : (start : S) (calls : List DeviceCall) (first : Option (List ℕ)) (ms : List (Option (List ℕ))) → ((why : Ending) → IsEnding calls why → ⊥)
      → EndsScript language performs start Failed (given calls) (Err Read) (taken calls) → InTime language performs start calls → InTime language performs start (then_read calls first ms)
  due_first start calls first ms unended ends t = λ before after bytes e. elim (split_append calls (Reading first ∷ map Writing ms) before after (Reading bytes) e) [
    | inl p ↦ t before p.0 bytes p.1
    | inr q ↦
        let none = only_read first ms q.0 after bytes q.2 in
        let same : calls ≡ before = sym (q.1 ∙ ap (λ l. calls ++ l) none ∙ append-nil calls) in
        subst (λ (l : List DeviceCall). ((why : Ending) → IsEnding l why → ⊥) × EndsScript language performs start Failed (given l) (Err Read) (taken l)) same (unended, ends)
  ]

  -- ---- a session that ended where no more was read, and one that was stopped
  ran_ended : {D : Type 0} (start : S) (reads writes : D → Option (List ℕ) → D → Type 0) (before after : D) (calls : List DeviceCall) (why : Ending) (bytes : List ℕ) (answer : Result Summary RunFault)
      → FoldsTo (did reads writes) before calls after → InTime language performs start calls → IsEnding calls why → take most_bytes (given calls) ≡ bytes
      → EndsScript language performs start why bytes answer (taken calls) → RanIn language performs start reads writes before answer after
  ran_ended start reads writes before after calls why bytes answer made t is cut e =
      record {
        calls = calls;
        made = made;
        session = record {
          ends = λ ending script r.
              let so = r.ended why is in
              let same : bytes ≡ script = sym cut ∙ sym (append-nil (take most_bytes (given calls))) ∙ ap (λ l. take most_bytes (given calls) ++ l) (sym so.1) ∙ sym r.whole in
              subst (λ (k : Ending). EndsScript language performs start k script answer (taken calls)) (sym so.0)
              (subst (λ (l : List ℕ). EndsScript language performs start why l answer (taken calls)) same e);
          in_time = t;
        };
      }

  ran_stopped : {D : Type 0} (start : S) (reads writes : D → Option (List ℕ) → D → Type 0) (before after : D) (calls : List DeviceCall) (bytes : List ℕ) (fault : RunFault)
      → FoldsTo (did reads writes) before calls after → InTime language performs start calls → take most_bytes (given calls) ≡ bytes
      → Stopped language performs start 0 first_place bytes fault (device_output [] []) (device_output (taken calls) []) → RanIn language performs start reads writes before (Err fault) after
  ran_stopped start reads writes before after calls bytes fault made t cut s =
      record {
        calls = calls;
        made = made;
        session = record {
          ends = λ ending script r.
              let same : bytes ++ r.rest ≡ script = ap (λ l. l ++ r.rest) (sym cut) ∙ sym r.whole in
              stopped_written language performs start ending script fault (taken calls)
              (subst (λ (l : List ℕ). Halts language performs start ending 0 first_place (lines_met ending l) fault (device_output [] []) (device_output (taken calls) [])) same (s.stops ending r.rest));
          in_time = t;
        };
      }

  module _ {D : Type 0} (reads writes : D → Option (List ℕ) → D → Type 0) where
    -- the complete lines of what was read are done and written
    pub due_now : (start mid : S) (before now : D) (read m : ℕ) (next : Place H) (part : List ℕ) (s : SeenSoFar language performs start reads writes before now read mid m next part)
        → IsUnbroken part → is_too_long (strip_carriage_return part) ≡ false → EndsScript language performs start Failed (given s.calls) (Err Read) (taken s.calls)
    unfolding fault_at_ending
    due_now start mid before now read m next part s u short =
        let none : last_met Failed part ≡ [] = ap (λ (b : Bool). cond b (strip_carriage_return part ∷ []) []) short in
        ends_from language performs start mid (given s.calls) part Failed m next (Err Read) (taken s.calls) (taken s.calls) s.came
        (finished language performs mid m next part Failed (device_output (taken s.calls) []) (Err Read) u none refl)

    made_on : (before now mid then : D) (calls : List DeviceCall) (bytes : Option (List ℕ)) (ms : List (Option (List ℕ))) → FoldsTo (did reads writes) before calls now → reads now bytes mid → FoldsTo writes mid ms then
        → FoldsTo (did reads writes) before (then_read calls bytes ms) then
    made_on before now mid then calls bytes ms f r w =
        folds_append (did reads writes) before now then calls (Reading bytes ∷ map Writing ms) f (mid, r, did_writes reads writes mid then ms w)

    pub seen_start : (start : S) (now : D) (n : ℕ) (block : Place H) (part : List ℕ) → n ≡ 0 → block ≡ first_place → part ≡ []
        → SeenSoFar language performs start reads writes now now 0 start n block part
    unfolding most_bytes
    seen_start start now n block part e b p =
        let begun : SeenSoFar language performs start reads writes now now 0 start 0 first_place [] =
        record {
          calls = [];
          made = refl;
          len = refl;
          unended = nothing;
          in_time = λ before after bytes h. absurd (no_reads [] before after bytes h);
          came = came_start language performs start 0 first_place [] (device_output [] []);
        } in
        subst (λ (k : ℕ). SeenSoFar language performs start reads writes now now 0 start k block part) (sym e)
        (subst (λ (x : Place H). SeenSoFar language performs start reads writes now now 0 start 0 x part) (sym b)
        (subst (λ (l : List ℕ). SeenSoFar language performs start reads writes now now 0 start 0 first_place l) (sym p) begun))

    -- a piece more, and its lines
    came_on : (start old new : S) (seen part piece last : List ℕ) (n m : ℕ) (block next : Place H) (before after : List ℕ)
        → Came language performs start 0 first_place seen (device_output [] []) old n block part (device_output before [])
        → Came language performs old n block (part ++ piece) (device_output before []) new m next last (device_output after [])
        → Came language performs start 0 first_place (seen ++ piece) (device_output [] []) new m next last (device_output after [])
    came_on start old new seen part piece last n m block next before after c d =
        came_trans language performs start old new 0 n m first_place block next (seen ++ piece) (part ++ piece) last (device_output [] []) (device_output before []) (device_output after [])
        (came_more language performs start old 0 n first_place block seen part piece (device_output [] []) (device_output before []) c) d

    pub seen_taken : (start old new : S) (before now mid then : D) (read took room n m : ℕ) (block next : Place H) (part last piece buffer : List ℕ)
        → SeenSoFar language performs start reads writes before now read old n block part → IsUnbroken part → is_too_long (strip_carriage_return part) ≡ false
        → reads now (Some (take took buffer)) mid → piece ≡ take room buffer → room ≡ took → took ≤ length buffer → (took ≡ 0 → ⊥) → read + took ≤ 16777216
        → Calling writes mid then (λ x y. Came language performs old n block (part ++ piece) (device_output x []) new m next last (device_output y []))
        → SeenSoFar language performs start reads writes before then (read + took) new m next last
    unfolding most_bytes
    seen_taken start old new before now mid then read took room n m block next part last piece buffer s u short r e same few some bound c =
        let bytes = take took buffer in
        let is : bytes ≡ piece = ap (λ k. take k buffer) (sym same) ∙ sym e in
        let calls = then_read s.calls (Some bytes) c.calls in
        let size = length-take-le took buffer few in
        let all : given calls ≡ given s.calls ++ bytes = then_given s.calls bytes c.calls in
        let len : length (given calls) ≡ read + took = omega (arith, ap length all, length-append (given s.calls) bytes, s.len, size) in
        record {
          calls = calls;
          made = made_on before now mid then s.calls (Some bytes) c.calls s.made r c.made;
          len = len;
          unended = no_ending calls bytes (then_last s.calls (Some bytes) c.calls) (λ h. some (sym size ∙ ap length h)) (omega (arith, len, bound));
          in_time = due_first start s.calls (Some bytes) c.calls s.unended (due_now start old before now read n block part s u short) s.in_time;
          came =
              subst (λ (l : List ℕ). Came language performs start 0 first_place l (device_output [] []) new m next last (device_output (taken calls) [])) (ap (λ l. given s.calls ++ l) (sym is) ∙ sym all)
              (subst (λ (l : List ℕ). Came language performs start 0 first_place (given s.calls ++ piece) (device_output [] []) new m next last (device_output l [])) (sym (then_taken s.calls (Some bytes) c.calls))
              (came_on start old new (given s.calls) part piece last n m block next (taken s.calls) (taken s.calls ++ taken (map Writing c.calls)) s.came (c.does (taken s.calls))));
        }

    -- ---- the last read
    abbrev ClosesThen : S → ℕ → Place H → List ℕ → Ending → Result Summary RunFault → List ℕ → List ℕ → Type 0
    ClosesThen mid m next part ending answer x y = Closes language performs mid ending m next (lines_met ending part) answer (device_output x []) (device_output y [])

    pub ran_failed : (start old : S) (before now mid then : D) (read m : ℕ) (next : Place H) (part : List ℕ) (answer : Result Summary RunFault)
        → SeenSoFar language performs start reads writes before now read old m next part → IsUnbroken part → is_too_long (strip_carriage_return part) ≡ false → read ≤ 16777216
        → reads now None mid → Calling writes mid then (ClosesThen old m next part Failed answer) → RanIn language performs start reads writes before answer then
    unfolding most_bytes
    ran_failed start old before now mid then read m next part answer s u short few r c =
        let calls = then_read s.calls None c.calls in
        let same = then_failed s.calls c.calls in
        ran_ended start reads writes before then calls Failed (given s.calls) answer
        (made_on before now mid then s.calls None c.calls s.made r c.made)
        (due_first start s.calls None c.calls s.unended (due_now start old before now read m next part s u short) s.in_time)
        (then_last s.calls None c.calls)
        (ap (take most_bytes) same ∙ take_all 16777216 (given s.calls) (omega (arith, s.len, few)))
        (subst (EndsScript language performs start Failed (given s.calls) answer) (sym (then_taken s.calls None c.calls))
        (ends_from language performs start old (given s.calls) part Failed m next answer (taken s.calls) (taken s.calls ++ taken (map Writing c.calls)) s.came (c.does (taken s.calls))))

    pub ran_at_end : (start old : S) (before now mid then : D) (read took m : ℕ) (buffer : List ℕ) (next : Place H) (part : List ℕ) (answer : Result Summary RunFault)
        → SeenSoFar language performs start reads writes before now read old m next part → IsUnbroken part → is_too_long (strip_carriage_return part) ≡ false → read ≤ 16777216
        → took ≡ 0 → reads now (Some (take took buffer)) mid → Calling writes mid then (ClosesThen old m next part AtEnd answer) → RanIn language performs start reads writes before answer then
    unfolding most_bytes
    ran_at_end start old before now mid then read took m buffer next part answer s u short few e r c =
        let none : take took buffer ≡ [] = ap (λ k. take k buffer) e in
        let at_end : reads now (Some []) mid = subst (λ (l : List ℕ). reads now (Some l) mid) none r in
        let calls = then_read s.calls (Some []) c.calls in
        let same : given calls ≡ given s.calls = then_given s.calls [] c.calls ∙ append-nil (given s.calls) in
        ran_ended start reads writes before then calls AtEnd (given s.calls) answer
        (made_on before now mid then s.calls (Some []) c.calls s.made at_end c.made)
        (due_first start s.calls (Some []) c.calls s.unended (due_now start old before now read m next part s u short) s.in_time)
        (then_last s.calls (Some []) c.calls)
        (ap (take most_bytes) same ∙ take_all 16777216 (given s.calls) (omega (arith, s.len, few)))
        (subst (EndsScript language performs start AtEnd (given s.calls) answer) (sym (then_taken s.calls (Some []) c.calls))
        (ends_from language performs start old (given s.calls) part AtEnd m next answer (taken s.calls) (taken s.calls ++ taken (map Writing c.calls)) s.came (c.does (taken s.calls))))

    pub ran_piece_stopped : (start old : S) (before now mid then : D) (read took room n : ℕ) (block : Place H) (part piece buffer : List ℕ) (fault : RunFault)
        → SeenSoFar language performs start reads writes before now read old n block part → IsUnbroken part → is_too_long (strip_carriage_return part) ≡ false
        → reads now (Some (take took buffer)) mid → piece ≡ take room buffer → room ≤ took → took ≤ length buffer → read + room ≤ 16777216 → (room < took → read + room ≡ 16777216)
        → Calling writes mid then (λ x y. Stopped language performs old n block (part ++ piece) fault (device_output x []) (device_output y []))
        → RanIn language performs start reads writes before (Err fault) then
    unfolding most_bytes
    ran_piece_stopped start old before now mid then read took room n block part piece buffer fault s u short r e less few bound full c =
        let bytes = take took buffer in
        let calls = then_read s.calls (Some bytes) c.calls in
        let cut = cut_piece 16777216 (given s.calls) buffer piece read took room s.len e less few bound full in
        let stopped = came_stopped language performs start old 0 n first_place block (given s.calls ++ piece) (part ++ piece) fault (device_output [] []) (device_output (taken s.calls) [])
        (device_output (taken s.calls ++ taken (map Writing c.calls)) []) (came_more language performs start old 0 n first_place block (given s.calls) part piece (device_output [] []) (device_output (taken s.calls) []) s.came)
        (c.does (taken s.calls)) in
        ran_stopped start reads writes before then calls (given s.calls ++ piece) fault
        (made_on before now mid then s.calls (Some bytes) c.calls s.made r c.made)
        (due_first start s.calls (Some bytes) c.calls s.unended (due_now start old before now read n block part s u short) s.in_time)
        (ap (take most_bytes) (then_given s.calls bytes c.calls) ∙ cut)
        (subst (λ (l : List ℕ). Stopped language performs start 0 first_place (given s.calls ++ piece) fault (device_output [] []) (device_output l [])) (sym (then_taken s.calls (Some bytes) c.calls)) stopped)

    pub ran_past : (start old new : S) (before now mid then : D) (read took room n m : ℕ) (block next : Place H) (part last piece buffer : List ℕ) (answer : Result Summary RunFault)
        → SeenSoFar language performs start reads writes before now read old n block part → IsUnbroken part → is_too_long (strip_carriage_return part) ≡ false
        → reads now (Some (take took buffer)) mid → piece ≡ take room buffer → room < took → took ≤ length buffer → read + room ≡ 16777216
        → Calling writes mid then (λ x z. (y : List ℕ) × Came language performs old n block (part ++ piece) (device_output x []) new m next last (device_output y []) × ClosesThen new m next last PastBound answer y z)
        → RanIn language performs start reads writes before answer then
    unfolding most_bytes
    ran_past start old new before now mid then read took room n m block next part last piece buffer answer s u short r e less few bound c =
        let bytes = take took buffer in
        let calls = then_read s.calls (Some bytes) c.calls in
        let all : given calls ≡ given s.calls ++ bytes = then_given s.calls bytes c.calls in
        let size = length-take-le took buffer few in
        let len : length (given calls) ≡ read + took = omega (arith, ap length all, length-append (given s.calls) bytes, s.len, size) in
        let cut = cut_piece 16777216 (given s.calls) buffer piece read took room s.len e (omega (arith, less)) few (omega (arith, bound)) (λ h. bound) in
        let d = c.does (taken s.calls) in
        let past : 16777216 < length (given calls) = omega (arith, len, less, bound) in
        ran_ended start reads writes before then calls PastBound (given s.calls ++ piece) answer
        (made_on before now mid then s.calls (Some bytes) c.calls s.made r c.made)
        (due_first start s.calls (Some bytes) c.calls s.unended (due_now start old before now read n block part s u short) s.in_time)
        past
        (ap (take most_bytes) all ∙ cut)
        (subst (EndsScript language performs start PastBound (given s.calls ++ piece) answer) (sym (then_taken s.calls (Some bytes) c.calls))
        (ends_from language performs start new (given s.calls ++ piece) last PastBound m next answer d.0 (taken s.calls ++ taken (map Writing c.calls))
        (came_on start old new (given s.calls) part piece last n m block next (taken s.calls) d.0 s.came d.1) d.2))
