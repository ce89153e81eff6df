use Rattle.std.proofs.Common.{arith}
use Rattle.cx_look_fields.proofs.NearestLemmas.{nearest_more}
use Rattle.cx_look_fields.proofs.nearest.nearest.Goals as goal

pub loop-left-preserved : goal.loop-left-preserved
loop-left-preserved c =
    let within = c.loop-left.invariant.0 in (
      omega (arith, within),
      nearest_more c.args.nears.now c.loop-left.left c.index-nears-left.result c.nearer_symbol.result c.loop-left.found c.loop-left-test.true within
          c.index-nears-left.is c.loop-left.invariant.1 c.nearer_symbol.ensures,
    )
