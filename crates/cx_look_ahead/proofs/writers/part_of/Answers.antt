use Rattle.std.proofs.Common.{arith}
use Rattle.cx_look_ahead.proofs.ByteLemmas.{are_of_span}
use Rattle.cx_look_ahead.proofs.writers.part_of.Goals as goal

pub returns : goal.returns
returns g c =
    are_of_span _ c.args.range _ c.store_is_sound.ensures (omega (arith, c.if-range-ge16777216.false)) c.in_ok-part.ensures.bytes
