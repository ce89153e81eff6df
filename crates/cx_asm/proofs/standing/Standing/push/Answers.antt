use Rattle.std.proofs.Common.{◌≤◌, ap, subst, sym}
use Rattle.cx_asm_image.specs.Resolved.{end_after}
use Rattle.cx_asm.specs.Resolving.{Standing}
use Rattle.cx_asm.proofs.FitLemmas.{line_fits}
use Rattle.cx_asm.proofs.standing.Standing.push.Goals as goal

pub push-requires-clause-after : goal.push-requires-clause-after
push-requires-clause-after c =
    subst (λ lines. end_after 0 lines ≤ c.args.line.at) (sym (ap (λ (s : Standing). s.lines) c.self.view_is))
    (line_fits 0 c.args.self.now.lines c.args.line 65536 c.requires.lines).0

pub push-requires-clause-fits : goal.push-requires-clause-fits
push-requires-clause-fits c = (line_fits 0 c.args.self.now.lines c.args.line 65536 c.requires.lines).1
