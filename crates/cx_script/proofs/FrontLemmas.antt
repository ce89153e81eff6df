-- What a front of a script asks stays, however the script goes on.
use Rattle.std.proofs.Common.{◌≡◌, ℕ, ◌+◌, inl, inr, Bool, true, false, cond, List, [], ◌∷◌, ◌++◌, Some, Result, Ok, Err, refl, sym, ap, ◌∙◌, subst, length, arith}
use Rattle.std.proofs.lemmas.List.{take_all}
use Rattle.std.specs.Str.Lines.{strip_carriage_return}
use Rattle.cx_script.specs.declared.run.Place.{Place}
use Rattle.cx_script_io.specs.Lines.{is_too_long, last_met, lines_met}
use Rattle.cx_script_io.specs.Facts.Lines.{BeginsLong, continues}
use Rattle.cx_script.specs.Script.{Script, Step, first_place, script_from, script_in, step_from, fault_at_ending, with_actions_first, led_to}
use Rattle.cx_script.specs.Facts.Fronts.{acted_first}
use Rattle.cx_script.specs.Laws.Fronts.{FrontsAreScripts, IsFrontOf}
use Rattle.cx_script_actions.specs.Language.{Language}
use Rattle.cx_script_blocks.specs.declared.faults.RunFault.{RunFault}
use Rattle.cx_script_blocks.specs.declared.faults.RunFault.TheVariants.{BadLine}
use Rattle.cx_script_io.specs.declared.input.Ending.{Ending}
use Rattle.cx_script_io.specs.declared.input.Ending.TheVariants.{Failed}
use Rattle.cx_script.proofs.PieceLemmas.{no_step}

-- the same actions in front of both
acted : {A : Type 0} (actions : List A) (front whole : Script A) → IsFrontOf front whole → IsFrontOf (with_actions_first actions front) (with_actions_first actions whole)
acted actions front whole h =
    record {
      actions = acted_first actions front whole h.actions;
      fault = elim h.fault [
        | inl read ↦ inl read
        | inr same ↦ inr (ap (with_actions_first actions) same)
      ];
    }

same_script : {A : Type 0} (script : Script A) → IsFrontOf script script
same_script script = record { actions = take_all (length script.actions) script.actions (omega arith); fault = inr refl }

-- a first line that is too long
long_first : {A H : Type 0} (language : Language A H) (ending : Ending) (number : ℕ) (block : Place H) (lines : List (List ℕ)) → BeginsLong lines
    → script_from language ending number block lines ≡ record { actions = []; fault = Some (BadLine number) }
unfolding script_from
long_first language ending number block [] h = absurd h
long_first language ending number block (line ∷ lines) h = ap (λ d. led_to d (λ next. script_from language ending (number + 1) next lines)) (no_step language number block line h)

unread : {A H : Type 0} (language : Language A H) (number : ℕ) (block : Place H) (whole : Script A) → IsFrontOf (script_from language Failed number block []) whole
unfolding script_from fault_at_ending
unread language number block whole = record { actions = refl; fault = inl refl }

-- where the complete lines end
part_left : {A H : Type 0} (language : Language A H) (ending : Ending) (number : ℕ) (block : Place H) (part : List ℕ) (more : List (List ℕ)) (long : Bool) → is_too_long (strip_carriage_return part) ≡ long
    → (is_too_long (strip_carriage_return part) ≡ true → BeginsLong more)
    → IsFrontOf (script_from language Failed number block (cond long (strip_carriage_return part ∷ []) [])) (script_from language ending number block more)
part_left language ending number block part more false e h = unread language number block (script_from language ending number block more)
part_left language ending number block part more true e h =
    let front = script_from language Failed number block (strip_carriage_return part ∷ []) in
    let same : script_from language ending number block more ≡ front = long_first language ending number block more (h e) ∙ sym (long_first language Failed number block (strip_carriage_return part ∷ []) e) in
    subst (IsFrontOf front) (sym same) (same_script front)

by_step : {A H : Type 0} (language : Language A H) (ending : Ending) (number : ℕ) (block : Place H) (line : List ℕ) (lines others : List (List ℕ)) (due : Result (Step A H) RunFault)
    → ((next : Place H) → IsFrontOf (script_from language Failed (number + 1) next lines) (script_from language ending (number + 1) next others))
    → IsFrontOf (led_to due (λ next. script_from language Failed (number + 1) next lines)) (led_to due (λ next. script_from language ending (number + 1) next others))
by_step language ending number block line lines others (Err fault) h = record { actions = refl; fault = inr refl }
by_step language ending number block line lines others (Ok step) h =
    acted step.actions (script_from language Failed (number + 1) step.place lines) (script_from language ending (number + 1) step.place others) (h step.place)

from_lines : {A H : Type 0} (language : Language A H) (ending : Ending) (number : ℕ) (block : Place H) (complete : List (List ℕ)) (part : List ℕ) (more : List (List ℕ))
    → (is_too_long (strip_carriage_return part) ≡ true → BeginsLong more)
    → IsFrontOf (script_from language Failed number block (complete ++ last_met Failed part)) (script_from language ending number block (complete ++ more))
unfolding script_from
from_lines language ending number block [] part more h = part_left language ending number block part more (is_too_long (strip_carriage_return part)) refl h
from_lines language ending number block (line ∷ complete) part more h =
    by_step language ending number block line (complete ++ last_met Failed part) (complete ++ more) (step_from language number block line)
    (λ next. from_lines language ending (number + 1) next complete part more h)

pub fronts_are_scripts : {A H : Type 0} (language : Language A H) → FrontsAreScripts language
unfolding script_in
fronts_are_scripts {A} {H} language ending seen rest =
    let c = continues ending seen rest in
    let front = ap (λ (l : List (List ℕ)). script_from language Failed 1 first_place l) c.front in
    let whole = ap (λ (l : List (List ℕ)). script_from language ending 1 first_place l) c.whole in
    subst (λ (s : Script A). IsFrontOf s (script_from language ending 1 first_place (lines_met ending (seen ++ rest)))) (sym front)
    (subst (IsFrontOf (script_from language Failed 1 first_place (c.complete ++ last_met Failed c.part))) (sym whole)
    (from_lines language ending 1 first_place c.complete c.part c.more c.long))
