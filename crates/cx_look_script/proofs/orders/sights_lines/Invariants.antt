use Rattle.std.proofs.Common.{length}
use Rattle.cx_look.specs.declared.look.Look.{Look}
use Rattle.cx_look_script.specs.Looking.{AreLookLines, at_region}
use Rattle.cx_look_script.proofs.OrdersLemmas.{SeenBefore}
use Rattle.cx_look_script.proofs.orders.sights_lines.Given as goal

abbrev pub invariant-loop-sight : goal.invariant-loop-sight
invariant-loop-sight g l =
    SeenBefore (λ (k : Look). AreLookLines k (at_region l.looking l.region)) l.region l.sights l.rest l.report

abbrev pub decreases-loop-sight : goal.decreases-loop-sight
decreases-loop-sight g l = length l.rest
