use Rattle.std.proofs.Common.{◌≡◌, ◌++◌, drop}
use Rattle.cx_translate.specs.Words.{words_in}
use Rattle.cx_translate.proofs.words.words_in.Given as goal

abbrev pub invariant-loop-i : goal.invariant-loop-i
invariant-loop-i l = l.words.items ++ words_in (drop l.i l.pieces) ≡ words_in l.pieces
