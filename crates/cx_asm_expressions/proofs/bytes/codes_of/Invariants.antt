use Rattle.std.proofs.Common.{◌≡◌, ◌++◌, drop, map}
use Rattle.cx_asm_expressions.specs.Texts.{code, single, characters}
use Rattle.cx_asm_expressions.proofs.bytes.codes_of.Given as goal

abbrev pub invariant-loop-c : goal.invariant-loop-c
invariant-loop-c l = l.found.items ++ map code (single l.opened (drop l.c-index l.body)) ≡ map code (characters l.body)
