use Rattle.cx_look_orders.specs.Facts.Outcomes.{texts_stand_once}
use Rattle.cx_orders.specs.Moves.{Moves}
use Rattle.cx_look_orders.specs.Facts.Decides as lemmas
use Rattle.cx_search.specs.Facts.Loops.{bounded_never_loops}
use Rattle.cx_look_orders.proofs.laws.reports_decide.Goals as goal

pub returns : goal.returns
returns g c = record {
  decide = λ seen keys.
      lemmas.reports_decide (g.V.Seen.shows seen) (g.V.Seen.tells seen) c.moves_decide.ensures c.calls_decide.ensures.turns c.a_turn_keeps_to_its_task.ensures.task
      c.a_key_keeps_to_its_terminal.ensures c.one_list_is_sooner.ensures keys (bounded_never_loops (Moves keys));
  once = λ seen keys. texts_stand_once c.one_list_is_sooner.ensures (g.V.Seen.shows seen) (g.V.Seen.tells seen) keys;
}
