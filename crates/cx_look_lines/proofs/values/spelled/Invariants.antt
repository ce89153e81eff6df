use Rattle.std.proofs.Common.{◌≡◌, take}
use Rattle.std.specs.List.{flat_map}
use Rattle.cx_base.specs.Digits.{digits}
use Rattle.cx_look_lines.proofs.values.spelled.Given as goal

abbrev pub invariant-loop-byte : goal.invariant-loop-byte
invariant-loop-byte l = l.text.items ≡ flat_map (digits 16 2) (take l.byte-index l.bytes)
