use Rattle.cx_asm_image.proofs.TextLemmas.{pushed}
use Rattle.cx_asm_image.proofs.resolved.ResolvedLines.push.Goals as goal

pub invariant_of-self-2 : goal.invariant_of-self-2
invariant_of-self-2 c = rw c.in_ok-push.ensures.items (pushed c.self.inside.lines.items c.self.inside.end c.args.line c.size_of.result c.self.invariant (rw c.self.view_is c.requires.after) c.size_of.ensures)
