use Rattle.std.proofs.Common.{◌<◌, ℕ, List, [], length, arith, rules}
use denote.Ref.{Bor}
use Rattle.cx_asm_expressions.proofs.ByteLemmas.{value_fault_more}
use Rattle.cx_asm_expressions.proofs.bytes.values_fault.Goals as goal

pub loop-value-preserved : goal.loop-value-preserved
loop-value-preserved c =
    let within : c.loop-value.value-index < length c.args.values.now = omega arith in
    let empty : Bor (List ℕ) = record { ref_ptr = (0, 0); now = [] } in
    let e = value_fault_more c.args.kind c.args.modifier c.loop-value.fault c.args.values.now empty c.loop-value.value-index _ within c.loop-value.invariant in
    search (rules, e)
