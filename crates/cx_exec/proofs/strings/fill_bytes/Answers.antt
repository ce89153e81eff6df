use Rattle.std.proofs.Common.{arith, refl}
use Rattle.cx_exec.proofs.RepeatLemmas.{begins_at, refilled_is_moved}
use Rattle.cx_exec.proofs.strings.fill_bytes.Goals as goal

pub returns : goal.returns
returns g c =
    refilled_is_moved _ _ _ _ _ c.move_bytes-2.new.new _ _ _ c.args.at.second (rw c.distance-period.ensures (begins_at _ _ c.args.at.first c.args.at.second))
    (omega (arith, c.if-period-eq0.false)) (omega (arith, c.if-n-period.false)) (omega (arith, c.requires.count)) refl c.move_bytes-2.array_long c.requires.count c.move_bytes-2.ensures
    c.repeat.ensures.size c.repeat.ensures.prefix c.repeat.ensures.each
