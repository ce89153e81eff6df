-- What is taken from bytes has its fields in their ranges.
use Rattle.std.proofs.Common.{arith}
use Rattle.cx_code.proofs.ReadingLemmas.{formed_at}
use Rattle.cx_code.proofs.spelling.reading.Goals as goal

pub from_parts-requires : goal.from_parts-requires
from_parts-requires c =
    rw c.fields_at.ensures (formed_at _ _ (record { at = λ k. omega (arith, c.type_inv.bytes k) }))
