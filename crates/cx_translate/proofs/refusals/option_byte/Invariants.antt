use Rattle.std.proofs.Common.{◌≡◌, drop, fold}
use Rattle.cx_translate.specs.Facts.Found.{with_option}
use Rattle.cx_translate.proofs.refusals.option_byte.Given as goal

abbrev pub invariant-loop-option : goal.invariant-loop-option
invariant-loop-option l = fold (with_option l.words) l.byte (drop l.option-index l.options) ≡ fold (with_option l.words) 0 l.options
