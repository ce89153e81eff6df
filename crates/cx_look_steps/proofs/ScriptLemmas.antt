-- The lines of a script ask for its steps.
use Rattle.std.proofs.Common.{◌≡◌, ℕ, ◌+◌, ◌<◌, List, [], ◌∷◌, ◌++◌, Bool, true, false, true≢false, Option, Some, None, ap, refl, sym, subst, ◌∙◌, arith, append_assoc, append-nil, length, length-append}
use Rattle.std.specs.Prelude.{◌==◌, ◌&&◌, nat_lt, if◌then◌else◌, option_map, option_to_list, ⊤}
use Rattle.std.specs.List.{AllByRecursion, filter_map}
use Rattle.std.proofs.lemmas.Bool.{eqb-true, ltb-true}
use Rattle.std.proofs.lemmas.List.Elements.{filter_map-append}
use Rattle.std.proofs.lemmas.Option.{none-some}
use Rattle.cx_look_lines.specs.Words.{Lines}
use Rattle.cx_region.specs.State.{RegionState}
use Rattle.cx_orders.specs.declared.states.KeyLine.{KeyLine}
use Rattle.cx_look_steps.specs.Laws.{AskFor, IsTurnOf, ScriptsAskForSteps, asked_row, asked_steps}
use Rattle.cx_look_steps.specs.Script.{key_line, no_turns, row_goes_on, row_lines, steps_lines, with_turn}
use Rattle.cx_look_steps.specs.declared.script.Row.{Row}
use Rattle.cx_look_steps.specs.declared.steps.Step.{Step}

both : (b c : Bool) → (b && c) ≡ true → (b ≡ true) × (c ≡ true)
both true true is = (refl, refl)
both true false is = absurd (true≢false (sym is))
both false c is = absurd (true≢false (sym is))

abbrev turn_of : ℕ → Option (List ℕ) → Step
turn_of number told = record { number = number; key = None; told = told }

abbrev texts : List Step → List (List ℕ)
texts steps = filter_map (λ (s : Step). s.told) steps

one_text : (number : ℕ) (told : Option (List ℕ)) → option_to_list told ≡ texts (turn_of number told ∷ [])
one_text number None = refl
one_text number (Some text) = refl

all_and : (P : Step → Type 0) (steps : List Step) (step : Step) → AllByRecursion P steps → P step → AllByRecursion P (steps ++ step ∷ [])
all_and P [] step all one = (one, tt)
all_and P (first ∷ steps) step all one = (all.0, all_and P steps step all.1 one)

-- a turn more of a row
longer_row : (first : Step) (others : List Step) (number : ℕ) (told : Option (List ℕ))
    → with_turn (asked_row (first, others)) (turn_of number told) ≡ asked_row (first, others ++ turn_of number told ∷ [])
longer_row first others number told =
    let many : (length others + 1) + 1 ≡ length (others ++ turn_of number told ∷ []) + 1 =
    omega (arith, length-append others (turn_of number told ∷ [])) in
    let all : texts (first ∷ others) ++ option_to_list told ≡ texts (first ∷ (others ++ turn_of number told ∷ [])) =
    ap (λ ts. texts (first ∷ others) ++ ts) (one_text number told)
    ∙ sym (filter_map-append (λ (s : Step). s.told) (first ∷ others) (turn_of number told ∷ [])) in
    λ i. record { number = first.number; many = many i; told = all i }

-- the first of a row
first_row : (number : ℕ) (told : Option (List ℕ)) → with_turn (no_turns number) (turn_of number told) ≡ asked_row (turn_of number told, [])
first_row number told = λ i. record { number = number; many = 0 + 1; told = one_text number told i }

module _ (region : RegionState) (keys : List KeyLine) where
  -- turns of a row that stand behind
  abbrev IsRow : Option (Step × List Step) → Type 0
  IsRow None = ⊤
  IsRow (Some (first, others)) = (first.key ≡ None) × AllByRecursion (IsTurnOf first.number) others × (length others < 4096)

  abbrev row_of : Option (Step × List Step) → Option Row
  row_of behind = option_map asked_row behind

  abbrev row_steps : Option (Step × List Step) → List Step
  row_steps None = []
  row_steps (Some behind) = asked_steps behind

  abbrev Asks : Option (Step × List Step) → List Step → Type 0
  Asks behind steps = AskFor region keys (steps_lines region keys (row_of behind) steps) (row_steps behind ++ steps)

  abbrev AsksOf : List Step → Type 0
  AsksOf steps = (behind : Option (Step × List Step)) → IsRow behind → Asks behind steps

  -- a row, and then what is asked for
  row_then : (number : ℕ) (told : Option (List ℕ)) (others : List Step) (lines : Lines) (steps : List Step)
      → IsRow (Some (turn_of number told, others)) → AskFor region keys lines steps
      → AskFor region keys (row_lines region (Some (asked_row (turn_of number told, others))) ++ lines) (turn_of number told ∷ (others ++ steps))
  row_then number told others lines steps is it = record {
    asked = (turn_of number told, others) ∷ it.asked;
    each = ((is.1, is.2), it.each);
    written = ap (λ ls. row_lines region (Some (asked_row (turn_of number told, others))) ++ ls) it.written;
    done = ap (λ ss. turn_of number told ∷ (others ++ ss)) it.done;
  }

  -- that where the first step is known to be a turn
  row_and : (number : ℕ) (key : Option ℕ) (told : Option (List ℕ)) (others : List Step) (lines : Lines) (steps : List Step) → key ≡ None
      → AllByRecursion (IsTurnOf number) others → length others < 4096 → AskFor region keys lines steps
      → AskFor region keys (row_lines region (Some (asked_row (record { number = number; key = key; told = told }, others))) ++ lines)
      (record { number = number; key = key; told = told } ∷ (others ++ steps))
  row_and number None told others lines steps none all few it = row_then number told others lines steps (none, all, few) it
  row_and number (Some came) told others lines steps none all few it = absurd (none-some came (sym none))

  -- a key after a row
  key_alone : (number came : ℕ) (told : Option (List ℕ)) (lines : Lines) (steps : List Step) → AskFor region keys lines steps
      → AskFor region keys (key_line region keys (record { number = number; key = Some came; told = told }) ++ lines)
      (record { number = number; key = Some came; told = told } ∷ steps)
  key_alone number came told lines steps it =
      let step : Step = record { number = number; key = Some came; told = told } in
      record {
        asked = (step, []) ∷ it.asked;
        each = (refl, it.each);
        written = ap (λ ls. key_line region keys step ++ ls) it.written;
        done = ap (λ xs. step ∷ xs) it.done;
      }

  key_on : (behind : Option (Step × List Step)) (number came : ℕ) (told : Option (List ℕ)) (steps : List Step) → IsRow behind → AsksOf steps
      → Asks behind (record { number = number; key = Some came; told = told } ∷ steps)
  unfolding steps_lines
  key_on None number came told steps is on = key_alone number came told (steps_lines region keys None steps) steps (on None tt)
  key_on (Some (first, others)) number came told steps is on =
      let step : Step = record { number = number; key = Some came; told = told } in
      let rest = steps_lines region keys None steps in
      subst (λ ls. AskFor region keys ls (first ∷ (others ++ step ∷ steps)))
      (sym (append_assoc (row_lines region (Some (asked_row (first, others)))) (key_line region keys step) rest))
      (row_and first.number first.key first.told others (key_line region keys step ++ rest) (step ∷ steps) is.0 is.1 is.2
      (key_alone number came told rest steps (on None tt)))

  -- a turn after a row, by whether it goes on with it
  abbrev lines_by : Bool → Step × List Step → Step → List Step → Lines
  lines_by goes behind step steps =
      (if goes then [] else row_lines region (Some (asked_row behind)) ++ [])
      ++ steps_lines region keys (Some (with_turn (if goes then asked_row behind else no_turns step.number) step)) steps

  turn_by : (goes : Bool) (first : Step) (others : List Step) (number : ℕ) (told : Option (List ℕ)) (steps : List Step)
      → IsRow (Some (first, others)) → AsksOf steps
      → (goes ≡ true → (first.number ≡ number) × (length others + 1 < 4096))
      → AskFor region keys (lines_by goes (first, others) (turn_of number told) steps) (first ∷ (others ++ turn_of number told ∷ steps))
  turn_by true first others number told steps is on tests =
      let step = turn_of number told in
      let same = tests refl in
      let it = on (Some (first, others ++ step ∷ []))
      (is.0, all_and (IsTurnOf first.number) others step is.1 (sym same.0, refl), omega (arith, same.1, length-append others (step ∷ []))) in
      subst (λ ss. AskFor region keys (steps_lines region keys (Some (with_turn (asked_row (first, others)) step)) steps) (first ∷ ss))
      (append_assoc others (step ∷ []) steps)
      (subst (λ r. AskFor region keys (steps_lines region keys (Some r) steps) (first ∷ ((others ++ step ∷ []) ++ steps)))
      (sym (longer_row first others number told)) it)
  turn_by false first others number told steps is on tests =
      let step = turn_of number told in
      let it = on (Some (step, [])) (refl, tt, omega arith) in
      let rest = steps_lines region keys (Some (with_turn (no_turns number) step)) steps in
      subst (λ ls. AskFor region keys (ls ++ rest) (first ∷ (others ++ step ∷ steps))) (sym (append-nil (row_lines region (Some (asked_row (first, others))))))
      (row_and first.number first.key first.told others rest (step ∷ steps) is.0 is.1 is.2
      (subst (λ r. AskFor region keys (steps_lines region keys (Some r) steps) (step ∷ steps)) (sym (first_row number told)) it))

  turn_on : (behind : Option (Step × List Step)) (number : ℕ) (told : Option (List ℕ)) (steps : List Step) → IsRow behind → AsksOf steps
      → Asks behind (turn_of number told ∷ steps)
  unfolding steps_lines
  turn_on None number told steps is on =
      subst (λ r. AskFor region keys (steps_lines region keys (Some r) steps) (turn_of number told ∷ steps)) (sym (first_row number told))
      (on (Some (turn_of number told, [])) (refl, tt, omega arith))
  turn_on (Some (first, others)) number told steps is on =
      turn_by (row_goes_on (Some (asked_row (first, others))) (turn_of number told)) first others number told steps is on (λ goes.
      let tests = both (first.number == number) (nat_lt (length others + 1) 4096) goes in
      (eqb-true first.number number tests.0, ltb-true (length others + 1) 4096 tests.1))

  step_on : (behind : Option (Step × List Step)) (number : ℕ) (key : Option ℕ) (told : Option (List ℕ)) (steps : List Step) → IsRow behind → AsksOf steps
      → Asks behind (record { number = number; key = key; told = told } ∷ steps)
  step_on behind number None told steps is on = turn_on behind number told steps is on
  step_on behind number (Some came) told steps is on = key_on behind number came told steps is on

  asks : (steps : List Step) → AsksOf steps
  unfolding steps_lines
  asks [] None is = record { asked = []; each = tt; written = refl; done = refl }
  asks [] (Some (first, others)) is =
      subst (λ ls. AskFor region keys ls (first ∷ (others ++ []))) (append-nil (row_lines region (Some (asked_row (first, others)))))
      (row_and first.number first.key first.told others [] [] is.0 is.1 is.2 (record { asked = []; each = tt; written = refl; done = refl }))
  asks (step ∷ steps) behind is = step_on behind step.number step.key step.told steps is (asks steps)

pub scripts_ask_for_steps : ScriptsAskForSteps
scripts_ask_for_steps region keys steps = asks region keys steps None tt
