use Rattle.std.proofs.Common.{refl}
use Rattle.cx_look_xref.proofs.StepLemmas.{part_step, parts_done}
use Rattle.cx_look_xref.proofs.literals.put_parts.Goals as goal

pub loop-part-preserved : goal.loop-part-preserved
loop-part-preserved c =
    λ number text. part_step number text c.args.pool c.args.line c.args.parts.now c.loop-part.part-index _ _ _ _ _ c.loop-part-test.true refl
    (c.in_ok-put_part.ensures number text) (c.loop-part.invariant number text)

pub returns : goal.returns
returns c =
    λ number text. parts_done number text c.args.pool c.args.line c.args.parts.now c.loop-part.part-index _ _ c.loop-part-test.false
    (c.loop-part.invariant number text)
