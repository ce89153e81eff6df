-- The actions of a script's first lines are the first of its actions, and so are those of a line in part.
use Rattle.std.proofs.Common.{◌≡◌, ℕ, zero, suc, ◌+◌, List, [], ◌∷◌, ◌++◌, length, take, drop, Result, Ok, Err, refl, sym, ap, ◌∙◌, append_assoc}
use Rattle.std.proofs.Math.Seq.{take-append_seam}
use Rattle.std.proofs.lemmas.List.{take-append-drop}
use Rattle.cx_script_actions.specs.Language.{Language}
use Rattle.cx_script.specs.declared.run.Place.{Place}
use Rattle.cx_script_blocks.specs.declared.faults.RunFault.{RunFault}
use Rattle.cx_script_io.specs.declared.input.Ending.{Ending}
use Rattle.cx_script_io.specs.declared.input.Ending.TheVariants.{Failed}
use Rattle.cx_script.specs.Script.{Script, Step, script_from, step_from, with_actions_first, led_to}

-- the same actions in front of both
pub acted_first : {A : Type 0} (actions : List A) (front whole : Script A) → take (length front.actions) whole.actions ≡ front.actions
    → take (length (with_actions_first actions front).actions) (with_actions_first actions whole).actions ≡ (with_actions_first actions front).actions
acted_first [] front whole h = h
acted_first {A} (action ∷ actions) front whole h = ap (λ (l : List A). action ∷ l) (acted_first actions front whole h)

by_step : {A H : Type 0} (due : Result (Step A H) RunFault) (next others : Place H → Script A)
    → ((place : Place H) → take (length (next place).actions) (others place).actions ≡ (next place).actions)
    → take (length (led_to due next).actions) (led_to due others).actions ≡ (led_to due next).actions
by_step (Err fault) next others h = refl
by_step (Ok step) next others h = acted_first step.actions (next step.place) (others step.place) (h step.place)

pub first_actions : {A H : Type 0} (language : Language A H) (ending : Ending) (number : ℕ) (place : Place H) (lines : List (List ℕ)) (k : ℕ)
    → take (length (script_from language Failed number place (take k lines)).actions) (script_from language ending number place lines).actions
    ≡ (script_from language Failed number place (take k lines)).actions
unfolding script_from
first_actions language ending number place lines zero = refl
first_actions language ending number place [] (suc k) = refl
first_actions language ending number place (line ∷ lines) (suc k) =
    by_step (step_from language number place line) (λ next. script_from language Failed (number + 1) next (take k lines)) (λ next. script_from language ending (number + 1) next lines)
    (λ next. first_actions language ending (number + 1) next lines k)

pub seam : {A : Type 0} (all own left rest : List A) → all ≡ (own ++ left) ++ rest → take (length own) all ≡ own
seam {A} all own left rest e = ap (λ (l : List A). take (length own) l) (e ∙ append_assoc own left rest) ∙ take-append_seam own (left ++ rest)

pub part_first : {A H : Type 0} (language : Language A H) (ending : Ending) (number : ℕ) (place : Place H) (lines : List (List ℕ)) (k : ℕ) (own left : List A)
    → (script_from language Failed number place (take (k + 1) lines)).actions ≡ (script_from language Failed number place (take k lines)).actions ++ own ++ left
    → take (length ((script_from language Failed number place (take k lines)).actions ++ own)) (script_from language ending number place lines).actions
    ≡ (script_from language Failed number place (take k lines)).actions ++ own
part_first {A} {H} language ending number place lines k own left asked =
    let front : List A = (script_from language Failed number place (take k lines)).actions in
    let led : List A = (script_from language Failed number place (take (k + 1) lines)).actions in
    let whole : List A = (script_from language ending number place lines).actions in
    seam whole (front ++ own) left (drop (length led) whole)
    (sym (take-append-drop (length led) whole) ∙ ap (λ (l : List A). l ++ drop (length led) whole) (first_actions language ending number place lines (k + 1) ∙ asked))
