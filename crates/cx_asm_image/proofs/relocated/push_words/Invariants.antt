use Rattle.std.proofs.Common.{◌≡◌, ◌++◌}
use Rattle.cx_asm_image.specs.Relocated.{words_at}
use Rattle.cx_asm_image.proofs.relocated.push_words.Given as goal

abbrev pub invariant-loop-copy : goal.invariant-loop-copy
invariant-loop-copy l = l.relocs.items ≡ l.initial.relocs.items ++ words_at l.at l.copy
