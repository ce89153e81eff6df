use Rattle.std.proofs.Common.{ap, sym}
use Rattle.cx_look_ahead.specs.Watching.{ActionEffect}
use Rattle.cx_look_ahead.proofs.LineLemmas.{lines_of_command}
use Rattle.cx_look_ahead.proofs.watching.Done.command_lines.Goals as goal

pub returns : goal.returns
returns g c =
    lines_of_command c.args.self.now _ _ c.args.changed.now c.args.back _ _ c.in_ok-report.report
    (sym (ap (λ (e : ActionEffect). e.sources) c.self.view_is)) (sym (ap (λ (e : ActionEffect). e.programs) c.self.view_is)) c.requires c.as_slice.ensures.value
    c.in_ok-statement.ensures c.in_ok-report.ensures
