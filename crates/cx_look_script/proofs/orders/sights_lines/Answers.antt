use Rattle.cx_look.specs.declared.look.Look.{Look}
use Rattle.cx_look_script.specs.Looking.{AreLookLines, at_region}
use Rattle.cx_look_script.proofs.OrdersLemmas.{seen_all, seen_one_more}
use Rattle.cx_look_script.proofs.orders.sights_lines.Goals as goal

pub loop-sight-preserved : goal.loop-sight-preserved
loop-sight-preserved g c =
    rw c.in_ok-append.ensures
    (seen_one_more _ _ _ _ _ _ _ _ c.in-Some.ensures.cases.0 c.in_ok-shown.ensures c.loop-sight.invariant)

pub returns : goal.returns
returns g c =
    let state = at_region c.args.looking.now c.args.region.now in
    seen_all (λ (k : Look). AreLookLines k state) c.args.region.now c.args.sights.now c.loop-sight.rest.now c.loop-sight.report
    c.in_default.ensures.cases c.loop-sight.invariant
