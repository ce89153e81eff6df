use Rattle.std.proofs.Common.{◌≡◌, drop}
use Rattle.cx_translate.specs.Call.{argument_of}
use Rattle.cx_translate.proofs.call.argument_of.Given as goal

abbrev pub invariant-loop-word : goal.invariant-loop-word
invariant-loop-word l = argument_of (drop l.word-index l.words) l.name ≡ argument_of l.words l.name
