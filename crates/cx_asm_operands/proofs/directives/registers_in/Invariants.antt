use Rattle.std.proofs.Common.{◌≡◌, drop, map}
use Rattle.cx_asm_operands.specs.Directives.{registers_in}
use Rattle.cx_asm_operands.specs.Context.{lookup_context}
use Rattle.cx_asm_operands.proofs.FaultLemmas.{with_rest}
use Rattle.cx_asm_operands.proofs.directives.registers_in.Given as goal

abbrev pub invariant-loop-text : goal.invariant-loop-text
invariant-loop-text l =
    with_rest l.fault l.found.items (registers_in (lookup_context l.c) (map (λ text. text.now) (drop l.text-index l.texts)))
    ≡ registers_in (lookup_context l.c) (map (λ text. text.now) l.texts)
