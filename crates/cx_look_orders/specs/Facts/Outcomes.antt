-- Steps lead as their moves do; and no two outcomes have one text.
use Rattle.std.proofs.Common.{List, None, Option, Some, [], arith, inl, inr, length, refl, subst, sym, ℕ, ◌∷◌, ◌≡◌, ◌≤◌}
use Rattle.std.specs.Prelude.{MatchOption, slice_get}
use Rattle.std.proofs.lemmas.Bool.{cases_order}
use Rattle.cx_search.specs.Laws.{SoonerOrders}
use Rattle.cx_search.specs.Moves.{IsSooner, Leads}
use Rattle.cx_region.specs.State.{RegionState, TerminalState}
use Rattle.cx_orders.specs.Moves.{KeyMoves, Moves}
use Rattle.cx_orders.specs.declared.states.Keys.{Keys}
use Rattle.cx_orders.specs.declared.states.OrdersState.{OrdersState}
use Rattle.cx_look_lines.specs.Words.{Lines}
use Rattle.cx_look_orders.specs.Laws.{TextsStandOnce}
use Rattle.cx_look_orders.specs.Outcomes.{EndsWith, IsOutcome}
use Rattle.cx_look_steps.specs.Facts.Soonest.{both_soonest}
use Rattle.cx_look_steps.specs.Steps.{AreSteps, IsStep, Telling, TurnIsTold, move_number, moves_of}
use Rattle.cx_look_orders.specs.Rest.{RestText}
use Rattle.cx_look_orders.specs.declared.outcomes.Outcome.{Outcome}
use Rattle.cx_look_steps.specs.declared.steps.Step.{Step}
use Rattle.cx_search.specs.Rest.{IsNear}

-- ---- steps
module _ (tells : Telling) (keys : Keys) where
  move_by : (from to : OrdersState) (number : ℕ) (name : List ℕ) (terminal : TerminalState) (came : ℕ) (key : Option ℕ)
      (told : Option (List ℕ))
      → slice_get from.region.terminals number ≡ Some (name, terminal) → slice_get from.come number ≡ Some came
      → MatchOption key (TurnIsTold tells from number name told to)
      (λ before. (before ≡ came) × KeyMoves keys from number name terminal came to × (told ≡ None))
      → Moves keys from (move_number (record { number = number; key = key; told = told })) to
  move_by from to number name terminal came None told at come turn = record {
    number = number;
    name = name;
    terminal = terminal;
    at = at;
    came = came;
    come = come;
    by = inl (refl, turn.turn);
  }
  move_by from to number name terminal came (Some before) told at come key = record {
    number = number;
    name = name;
    terminal = terminal;
    at = at;
    came = came;
    come = come;
    by = inr (refl, key.1);
  }

  pub move_of : (from to : OrdersState) (step : Step) → IsStep tells keys from step to
      → Moves keys from (move_number step) to
  move_of from to step is =
      move_by from to step.number is.name is.terminal is.came step.key step.told is.at is.come is.move

  pub steps_lead : (from to : OrdersState) (steps : List Step) → AreSteps tells keys from steps to
      → Leads (Moves keys) from (moves_of steps) to
  unfolding AreSteps Leads
  steps_lead from to [] are = are
  steps_lead from to (step ∷ steps) are = record {
    between = are.between;
    goes = move_of from are.between step are.is;
    rest = steps_lead are.between to steps are.rest;
  }

-- a list of steps is as long as that of its moves
pub many_moves : (steps : List Step) → length (moves_of steps) ≡ length steps
many_moves [] = refl
many_moves (step ∷ steps) = omega (arith, many_moves steps)

-- ---- at most so many moves
pub near_less : (cut : Option ℕ) (m n : ℕ) → m ≤ n → IsNear cut n → IsNear cut m
near_less None m n l near = tt
near_less (Some most) m n l near = omega (arith, l, near)

-- ---- outcomes of one text
module _ (Shows : RegionState → Lines → Type 0) (tells : Telling) (keys : Keys) (start : OrdersState)
    (cut : Option ℕ) where
  pub ends_with : (one : Outcome) (text : Lines) → IsOutcome Shows tells keys start cut one → one.text ≡ text
      → EndsWith Shows keys start (moves_of one.steps) text
  ends_with one text is e = record {
    to = is.to;
    leads = steps_lead tells keys start is.to one.steps is.steps;
    rest = is.rest;
    shows = subst (RestText Shows keys.lines is.to) e is.shows;
  }

-- they have one list of moves
pub same_moves : SoonerOrders
    → (Shows : RegionState → Lines → Type 0) (tells : Telling) (keys : Keys) (start : OrdersState) (cut : Option ℕ)
    (one other : Outcome)
    → IsOutcome Shows tells keys start cut one → IsOutcome Shows tells keys start cut other → one.text ≡ other.text
    → moves_of one.steps ≡ moves_of other.steps
same_moves sooner Shows tells keys start cut one other is too e =
    both_soonest sooner (moves_of one.steps) (moves_of other.steps)
    (is.soonest (moves_of other.steps) (ends_with Shows tells keys start cut other one.text too (sym e)))
    (too.soonest (moves_of one.steps) (ends_with Shows tells keys start cut one other.text is e))

-- and stand at one place
pub texts_stand_once : SoonerOrders → (Shows : RegionState → Lines → Type 0) (tells : Telling) (keys : Keys)
    → TextsStandOnce Shows tells keys
texts_stand_once sooner Shows tells keys start cut outcomes are j k one other at there e =
    let moves = same_moves sooner Shows tells keys start cut one other (are.each j one at) (are.each k other there) e in
    elim (cases_order j k) [
      | inl same ↦ same
      | inr (inl l) ↦ absurd (sooner.not_self (moves_of other.steps)
          (subst (λ ms. IsSooner ms (moves_of other.steps)) moves (are.ordered j k one other l at there)))
      | inr (inr l) ↦ absurd (sooner.not_self (moves_of one.steps)
          (subst (λ ms. IsSooner ms (moves_of one.steps)) (sym moves) (are.ordered k j other one l there at)))
    ]
