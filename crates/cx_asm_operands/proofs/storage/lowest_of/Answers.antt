use Rattle.std.proofs.Common.{◌<◌, ℕ, List, [], length, arith, rules}
use Rattle.std.proofs.lemmas.Grind.{common_steps}
use denote.Ref.{Bor}
use Rattle.cx_asm_operands.proofs.FaultLemmas.{value_fault_more}
use Rattle.cx_asm_operands.specs.Context.{lookup_context}
use Rattle.cx_asm_operands.proofs.storage.lowest_of.Goals as goal

pub loop-text-preserved : goal.loop-text-preserved
loop-text-preserved c =
    let within : c.loop-text.text-index < length c.args.more.now = omega arith in
    let empty : Bor (List ℕ) = record { ref_ptr = (0, 0); now = [] } in
    let e = value_fault_more (lookup_context c.args.c.now) c.loop-text.fault c.args.more.now empty c.loop-text.text-index _ within c.loop-text.invariant in
    first_of (search (rules, e), grind (arith, common_steps, e))
