-- What is written of every order (this product's own).
use Rattle.std.specs.Prelude.{◌≡◌, ◌⊎◌, ℕ, ◌+◌, ◌≤◌, ◌==◌, Bool, if◌then◌else◌, List, [], ◌∷◌, ◌++◌, Option, None, Some, MatchBool, codes, length}
use Rattle.std.specs.Fmt.{decimal}
use Rattle.std.specs.Option.{option_map_or}
use Rattle.cx_look_lines.specs.Words.{Lines, look_line}
use Rattle.cx_region.specs.State.{RegionState}
use Rattle.cx_orders.specs.Moves.{begun}
use Rattle.cx_orders.specs.declared.states.KeyLine.{KeyLine}
use Rattle.cx_orders.specs.declared.states.Keys.{Keys}
use Rattle.cx_look_orders.specs.Outcomes.{AllCanRest, AreOutcomes, HasStates, IsCutAt, IsStuck, MayLoop}
use Rattle.cx_look_steps.specs.Script.{script_lines}
use Rattle.cx_look_steps.specs.Steps.{Telling}
use Rattle.cx_look_orders.specs.declared.outcomes.Outcome.{Outcome}
use Rattle.cx_look_steps.specs.declared.steps.Step.{Step}

-- when keys may come, where there are some
abbrev pub when_words : Bool → List ℕ
when_words typed_ahead = if typed_ahead then codes "KEYS TYPED AHEAD" else codes "KEYS WHEN ASKED"

abbrev pub keys_words : Keys → Lines
keys_words keys = if length keys.lines == 0 then [] else when_words keys.typed_ahead ∷ []

abbrev pub whole_line : Keys → ℕ → ℕ → Lines
whole_line keys states outcomes =
    look_line (codes "ORDERS STATES" ∷ decimal states ∷ codes "OUTCOMES" ∷ decimal outcomes ∷ keys_words keys)

abbrev pub cut_line : Keys → ℕ → ℕ → Lines
cut_line keys most moves =
    look_line
    (codes "ORDERS MORE THAN" ∷ decimal most ∷ codes "STATES, ALL OF" ∷ decimal moves ∷ codes "MOVES"
    ∷ keys_words keys)

unfoldable pub number_line : ℕ → Lines
number_line number = look_line (codes "OUTCOME" ∷ decimal number ∷ [])

module _ (region : RegionState) (keys : List KeyLine) (edf : List (List ℕ)) where
  -- what is to be seen of an outcome, and the script that ends with it
  unfoldable pub outcome_lines : Outcome → Lines
  outcome_lines one = one.text ++ script_lines region keys edf one.steps

  -- outcomes with their numbers, from the first one's on
  unfoldable pub outcomes_lines : ℕ → List Outcome → Lines
  outcomes_lines number [] = []
  outcomes_lines number (one ∷ outcomes) =
      number_line number ++ outcome_lines one ++ outcomes_lines (number + 1) outcomes

  abbrev pub loop_lines : Option (List Step) → Lines
  loop_lines loop =
      option_map_or
      (λ (steps : List Step). look_line (codes "ORDERS SOME NEVER REST" ∷ []) ++ script_lines region keys edf steps)
      loop []

abbrev pub stuck_line : Bool → Lines
stuck_line is_stuck = if is_stuck then look_line (codes "ORDERS SOME CANNOT REST" ∷ []) else []

module _ (Shows : RegionState → Lines → Type 0) (tells : Telling) (keys : Keys) (region : RegionState)
    (edf : List (List ℕ)) (most : ℕ) where
  -- at most so many states can be come to
  pub record WholeText (lines : Lines) : Type 0 where
    pub states : ℕ
    pub count : HasStates keys (begun region) states
    pub few : states ≤ most
    pub outcomes : List Outcome
    pub are : AreOutcomes Shows tells keys (begun region) None outcomes
    pub loop : Option (List Step)
    pub may_loop : MayLoop tells keys (begun region) loop
    pub is_stuck : Bool
    pub may_stick : MatchBool is_stuck (IsStuck keys (begun region)) (AllCanRest keys (begun region))
    pub is : lines ≡ whole_line keys states (length outcomes)
        ++ outcomes_lines region keys.lines edf 1 outcomes ++ loop_lines region keys.lines edf loop
        ++ stuck_line is_stuck

  -- more can: the outcomes of lists of so many moves that the states are no more
  pub record CutText (lines : Lines) : Type 0 where
    pub moves : ℕ
    pub cut : IsCutAt keys (begun region) most moves
    pub outcomes : List Outcome
    pub are : AreOutcomes Shows tells keys (begun region) (Some moves) outcomes
    pub is : lines ≡ cut_line keys most moves ++ outcomes_lines region keys.lines edf 1 outcomes

  -- What is written of every order of a region's turns and these keys, where EDF is on at these terminals.
  abbrev pub OrdersText : Lines → Type 0
  OrdersText lines = WholeText lines ⊎ CutText lines
