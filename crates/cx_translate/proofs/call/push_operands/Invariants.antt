use Rattle.std.proofs.Common.{◌≡◌, ◌++◌, drop}
use Rattle.cx_translate.specs.Call.{operands_of}
use Rattle.cx_translate.proofs.call.push_operands.Given as goal

abbrev pub invariant-loop-option : goal.invariant-loop-option
invariant-loop-option l = l.list.items ++ operands_of (drop l.option-index l.options) l.words ≡ l.fn.list.items ++ operands_of l.options l.words
