use Rattle.std.proofs.Common.{sym}
use Rattle.cx_choices.proofs.ActingLemmas.{rest_by}
use Rattle.cx_choices.proofs.acting.is_at_rest.Goals as goal

pub returns : goal.returns
returns g c =
    rest_by c.args.region.now c.is_none.result c.first_to_act.result (sym c.is_none.ensures) c.first_to_act.ensures.first c.first_to_act.ensures.none
