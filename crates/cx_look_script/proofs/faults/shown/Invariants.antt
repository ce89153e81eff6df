use Rattle.std.proofs.Common.{◌≡◌, ◌++◌, drop, map}
use Rattle.cx_script_blocks.specs.Shown.{printable_byte}
use Rattle.cx_look_script.proofs.faults.shown.Given as goal

abbrev pub invariant-loop-c : goal.invariant-loop-c
invariant-loop-c l = l.found.items ++ map printable_byte (drop l.c-index l.text) ≡ map printable_byte l.text
