use Rattle.std.proofs.Common.{◌≡◌, drop, map}
use Rattle.std.specs.Result.{result_err}
use Rattle.cx_asm_expressions.specs.Faults.{lower, lowest}
use Rattle.cx_asm_operands.specs.Context.{lookup_context, expression_value}
use Rattle.cx_asm_operands.proofs.storage.lowest_of.Given as goal

abbrev pub invariant-loop-text : goal.invariant-loop-text
invariant-loop-text l =
    lower l.fault (lowest (map (λ text. result_err (expression_value (lookup_context l.c) text)) (map (λ text. text.now) (drop l.text-index l.more))))
    ≡ lower (result_err l.fn.address) (lowest (map (λ text. result_err (expression_value (lookup_context l.c) text)) (map (λ text. text.now) l.more)))
