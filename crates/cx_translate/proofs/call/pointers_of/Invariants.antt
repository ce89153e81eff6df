use Rattle.std.proofs.Common.{◌≡◌, ◌++◌, drop}
use Rattle.cx_translate.specs.Call.{pointers_of}
use Rattle.cx_translate.proofs.call.pointers_of.Given as goal

abbrev pub invariant-loop-option : goal.invariant-loop-option
invariant-loop-option l = l.registers.items ++ pointers_of (drop l.option-index l.options) l.words ≡ pointers_of l.options l.words
