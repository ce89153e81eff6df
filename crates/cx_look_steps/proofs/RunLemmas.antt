-- Steps are runs of the region.
use Rattle.std.proofs.Common.{◌≡◌, ℕ, List, [], ◌∷◌, map, Option, Some, None, ap, refl, sym, ◌∙◌}
use Rattle.std.specs.Prelude.{MatchOption, option_map, slice_get}
use Rattle.std.specs.Map.{keys_of as names_of}
use Rattle.std.specs.Option.{option_and_then}
use Rattle.cx_region.specs.Events.{Applies, Run}
use Rattle.cx_region.specs.State.{TerminalState}
use Rattle.cx_region.specs.declared.replies.Event.{Event}
use Rattle.cx_region.specs.declared.replies.Event.TheVariants as event
use Rattle.cx_region.specs.declared.replies.Reply.{Reply}
use Rattle.cx_region.specs.declared.replies.Reply.TheVariants as reply
use Rattle.cx_region_laws.specs.Laws.Regions.{KeysKeepToTheirTerminal, TurnsKeepToTheirTask}
use Rattle.cx_orders.specs.Laws.{IsOrder}
use Rattle.cx_orders.specs.Moves.{KeyMoves, keys_of}
use Rattle.cx_orders.specs.declared.states.KeyLine.{KeyLine}
use Rattle.cx_orders.specs.declared.states.Keys.{Keys}
use Rattle.cx_orders.specs.declared.states.OrdersState.{OrdersState}
use Rattle.cx_look_steps.specs.Laws.{IsMoveReply, IsRunOf, StepsAreRuns, event_at, event_of_step}
use Rattle.cx_look_steps.specs.Steps.{AreSteps, Telling, TurnIsTold}
use Rattle.cx_look_steps.specs.declared.steps.Step.{Step}
use Rattle.cx_look_steps.specs.Facts.Lists.{mapped_item}

module _ (turned : TurnsKeepToTheirTask) (keyed : KeysKeepToTheirTerminal) (tells : Telling) (keys : Keys) where
  abbrev names : OrdersState → List (List ℕ)
  names state = names_of state.region.terminals

  -- a step's event, its reply, and that the names stay
  record Does (from : OrdersState) (step : Step) (to : OrdersState) : Type 0 where
    what : Event
    answer : Reply
    is : event_of_step (names from) keys.lines step ≡ Some what
    order : IsOrder what
    move : IsMoveReply answer
    applies : Applies from.region what answer to.region
    same : names to ≡ names from

  name_there : (from : OrdersState) (number : ℕ) (name : List ℕ) (terminal : TerminalState) → slice_get from.region.terminals number ≡ Some (name, terminal)
      → slice_get (names from) number ≡ Some name
  name_there from number name terminal at = mapped_item (λ (entry : List ℕ × TerminalState). entry.0) from.region.terminals number (name, terminal) at

  does_by : (from to : OrdersState) (number : ℕ) (name : List ℕ) (terminal : TerminalState) (came : ℕ) (key : Option ℕ) (told : Option (List ℕ))
      → slice_get from.region.terminals number ≡ Some (name, terminal)
      → MatchOption key (TurnIsTold tells from number name told to) (λ before. (before ≡ came) × KeyMoves keys from number name terminal came to × (told ≡ None))
      → Does from (record { number = number; key = key; told = told }) to
  unfolding Applies
  does_by from to number name terminal came None told at t = record {
    what = event.Turn name;
    answer = reply.Turn t.turn.reply;
    is = ap (λ o. option_and_then (λ (n : List ℕ). event_at keys.lines n None) o) (name_there from number name terminal at);
    order = tt;
    move = t.turn.moves;
    applies = t.turn.takes;
    same = (turned from.region name t.turn.reply to.region t.turn.takes).names;
  }
  does_by from to number name terminal came (Some before) told at k = record {
    what = event.Key name k.1.key.aid k.1.key.bytes;
    answer = reply.Key k.1.comes.reply;
    is = ap (λ o. option_and_then (λ (n : List ℕ). event_at keys.lines n (Some before)) o) (name_there from number name terminal at)
        ∙ ap (λ (o : Option KeyLine). option_map (λ (key : KeyLine). event.Key name key.aid key.bytes) o) (ap (λ n. slice_get (keys_of keys.lines name) n) k.0 ∙ k.1.next);
    order = tt;
    move = tt;
    applies = k.1.comes.takes;
    same = (keyed from.region name _ k.1.comes.reply to.region k.1.comes.takes).names;
  }

  run_on : (from between to : OrdersState) (step : Step) (steps : List Step) → Does from step between → IsRunOf keys.lines between steps to → IsRunOf keys.lines from (step ∷ steps) to
  unfolding Run
  run_on from between to step steps one rest = record {
    events = one.what ∷ rest.events;
    replies = one.answer ∷ rest.replies;
    are = ap (λ e. e ∷ map (event_of_step (names from) keys.lines) steps) one.is
        ∙ ap (λ es. Some one.what ∷ es) (ap (λ ns. map (event_of_step ns keys.lines) steps) (sym one.same) ∙ rest.are);
    orders = (one.order, rest.orders);
    moves = (one.move, rest.moves);
    run = (between.region, one.applies, rest.run);
  }

  runs : (from to : OrdersState) (steps : List Step) → AreSteps tells keys from steps to → IsRunOf keys.lines from steps to
  unfolding AreSteps Run
  runs from to [] are = record { events = []; replies = []; are = refl; orders = tt; moves = tt; run = ap (λ (s : OrdersState). s.region) are }
  runs from to (step ∷ steps) are =
      run_on from are.between to step steps
      (does_by from are.between step.number are.is.name are.is.terminal are.is.came step.key step.told are.is.at are.is.move)
      (runs are.between to steps are.rest)

pub steps_are_runs : TurnsKeepToTheirTask → KeysKeepToTheirTerminal → StepsAreRuns
steps_are_runs turned keyed tells keys from to steps are = runs turned keyed tells keys from to steps are
