use Rattle.std.proofs.Common.{rules, ◌≡◌}
use Rattle.cx_exec.proofs.FrontLemmas.{made_effect}
use Rattle.cx_exec.proofs.stepping.perform_slow.Goals as goal

pub returns : goal.returns
returns g c =
    let same : c.op.result ≡ c.args.inst.now.op = search rules in
    made_effect _ _ _ _ _ _ c.with_fields.ensures.formed c.with_fields.ensures.fields (rw same at c.effect_after.ensures)
