use Rattle.std.proofs.Common.{rules}
use Rattle.cx_choices.proofs.ActingLemmas.{ready_by}
use Rattle.cx_choices.proofs.acting.can_press.Goals as goal

pub returns : goal.returns
returns g c =
    ready_by c.args.region.now c.args.name c.activities_decide.ensures c.in-Some.terminal.now c.activity.result (search rules) c.activity.ensures
    c.is_ready.result c.is_ready.ensures
