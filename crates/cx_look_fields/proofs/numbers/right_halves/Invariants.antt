use Rattle.std.proofs.Common.{◌≡◌, ◌%◌, map, take}
use Rattle.cx_look_fields.proofs.numbers.right_halves.Given as goal

abbrev pub invariant-loop-byte : goal.invariant-loop-byte
invariant-loop-byte l = l.found.items ≡ map (λ byte. byte % 16) (take l.byte-index l.bytes)
