use Rattle.std.proofs.Common.{◌≡◌, ◌*◌, length, take}
use Rattle.cx_look_fields.specs.Numbers.{halves}
use Rattle.cx_look_fields.proofs.numbers.halves.Given as goal

abbrev pub invariant-loop-byte : goal.invariant-loop-byte
invariant-loop-byte l = (l.found.items ≡ halves (take l.byte-index l.bytes)) × (length l.found.items ≡ 2 * l.byte-index)
