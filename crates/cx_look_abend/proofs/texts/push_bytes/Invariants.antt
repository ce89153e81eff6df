use Rattle.std.proofs.Common.{◌≡◌, ◌++◌, take}
use Rattle.std.specs.List.{flat_map}
use Rattle.cx_look_abend.specs.Texts.{byte_digits}
use Rattle.cx_look_abend.proofs.texts.push_bytes.Given as goal

abbrev pub invariant-loop-byte : goal.invariant-loop-byte
invariant-loop-byte l = l.text.items ≡ l.initial.text.items ++ flat_map byte_digits (take l.byte-index l.bytes)
