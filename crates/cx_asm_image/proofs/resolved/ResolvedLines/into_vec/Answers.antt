use Rattle.cx_asm_image.specs.Facts.Apart.{apart_up_to}
use Rattle.cx_asm_image.proofs.resolved.ResolvedLines.into_vec.Goals as goal

pub returns-clause-apart : goal.returns-clause-apart
returns-clause-apart c size h = rw (← c.self.view_is) (apart_up_to 0 c.self.inside.lines.items c.self.inside.end size c.self.invariant.apart (rw c.self.view_is h))
