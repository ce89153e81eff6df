-- Orders are runs of the region.
use Rattle.std.proofs.Common.{ℕ, suc, List, [], ◌∷◌, length, inl, inr, refl, ap}
use Rattle.cx_search.specs.Moves.{Leads}
use Rattle.cx_region.specs.Events.{Applies, Run}
use Rattle.cx_region.specs.State.{TerminalState}
use Rattle.cx_region.specs.declared.replies.Event.TheVariants as event
use Rattle.cx_region.specs.declared.replies.Reply.TheVariants as reply
use Rattle.cx_orders.specs.Laws.{IsOrderRun, OrdersAreRuns}
use Rattle.cx_orders.specs.Moves.{KeyMoves, Moves, TurnMoves}
use Rattle.cx_orders.specs.declared.states.Keys.{Keys}
use Rattle.cx_orders.specs.declared.states.OrdersState.{OrdersState}

module _ (keys : Keys) (from between to : OrdersState) (many : ℕ) (rest : IsOrderRun between many to) where
  run_by_turn : (number : ℕ) (name : List ℕ) → TurnMoves from number name between → IsOrderRun from (suc many) to
  unfolding Run Applies
  run_by_turn number name t = record {
    events = event.Turn name ∷ rest.events;
    replies = reply.Turn t.reply ∷ rest.replies;
    as_many = ap suc rest.as_many;
    orders = (tt, rest.orders);
    run = (between.region, t.takes, rest.run);
  }

  run_by_key : (number : ℕ) (name : List ℕ) (terminal : TerminalState) (came : ℕ) → KeyMoves keys from number name terminal came between
      → IsOrderRun from (suc many) to
  unfolding Run Applies
  run_by_key number name terminal came k = record {
    events = event.Key name k.key.aid k.key.bytes ∷ rest.events;
    replies = reply.Key k.comes.reply ∷ rest.replies;
    as_many = ap suc rest.as_many;
    orders = (tt, rest.orders);
    run = (between.region, k.comes.takes, rest.run);
  }

  run_on : (move : ℕ) → Moves keys from move between → IsOrderRun from (suc many) to
  run_on move m = elim m.by [
    | inl t ↦ run_by_turn m.number m.name t.1
    | inr k ↦ run_by_key m.number m.name m.terminal m.came k.1
  ]

pub orders_are_runs : OrdersAreRuns
unfolding Leads Run
orders_are_runs keys from to [] leads = record { events = []; replies = []; as_many = refl; orders = tt; run = ap (λ (s : OrdersState). s.region) leads }
orders_are_runs keys from to (move ∷ moves) leads =
    run_on keys from leads.between to (length moves) (orders_are_runs keys leads.between to moves leads.rest) move leads.goes
