use Rattle.std.proofs.Common.{◌≡◌, ℕ, List, ◌++◌, drop, encode_utf8_all, map}
use Rattle.std.specs.Fmt.{HasWritten, IsPlainFormatter}
use Rattle.cx_script_blocks.specs.Shown.{printable_byte}
use Rattle.cx_script_main.proofs.shown.ShownLineDisplay.fmt.Given as goal

abbrev pub invariant-bytes : goal.invariant-bytes
invariant-bytes g l =
    IsPlainFormatter l.fn.f
    → (done : List ℕ) × HasWritten g.W.Write.write_str_gives l.fn.f done l.f
    × (done ++ encode_utf8_all (map printable_byte (drop l.c-index l.shown)) ≡ encode_utf8_all (map printable_byte l.shown))
