use Rattle.std.proofs.Common.{◌≡◌}
use Rattle.cx_ebcdic.specs.Characters.{shown_as}
use Rattle.cx_base.proofs.ShownLemmas.{mapped}
use Rattle.cx_base.proofs.texts.show.Given as goal

abbrev pub invariant-loop-i : goal.invariant-loop-i
invariant-loop-i l = l.bytes ≡ mapped shown_as l.i l.initial.bytes
