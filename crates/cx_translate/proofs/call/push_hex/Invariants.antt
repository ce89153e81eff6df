use Rattle.std.proofs.Common.{◌≡◌, ◌++◌, drop, string_bytes}
use Rattle.std.specs.List.{flat_map}
use Rattle.cx_translate.specs.Call.{hex_pair}
use Rattle.cx_translate.proofs.call.push_hex.Given as goal

abbrev pub invariant-loop-byte : goal.invariant-loop-byte
invariant-loop-byte l =
    string_bytes l.text ++ flat_map hex_pair (drop l.byte-index l.bytes) ≡ string_bytes l.fn.text ++ flat_map hex_pair l.bytes
