use Rattle.std.proofs.Common.{◌≡◌}
use Rattle.cx_base.specs.Texts.{shown_text}
use Rattle.cx_base.proofs.ShownLemmas.{mapped}
use Rattle.cx_base.proofs.pages.show_lines.Given as goal

abbrev pub invariant-loop-i : goal.invariant-loop-i
invariant-loop-i l = l.lines ≡ mapped shown_text l.i l.initial.lines
