use Rattle.std.proofs.Common.{◌<◌, ℕ, List, [], length, arith, rules}
use Rattle.std.proofs.lemmas.Grind.{common_steps}
use denote.Ref.{Bor}
use Rattle.cx_asm_pass2.specs.Whole.{whole_by}
use Rattle.cx_asm_pass2.specs.SecondFaults.{part_fault}
use Rattle.cx_asm_pass2.proofs.FaultLemmas.{one_more}
use Rattle.cx_asm_pass2.proofs.faults.parts_fault.Goals as goal

pub loop-part-preserved : goal.loop-part-preserved
loop-part-preserved c =
    let within : c.loop-part.part-index < length c.args.parts.now = omega arith in
    let empty : Bor (List ℕ) = record { ref_ptr = (0, 0); now = [] } in
    let e = one_more (part_fault (whole_by c.args.places.now) c.args.number c.args.statement.now) (λ (p : Bor (List ℕ)). p.now) c.loop-part.fault
    c.args.parts.now empty c.loop-part.part-index _ within c.loop-part.invariant in
    first_of (search (rules, e), grind (arith, common_steps, e))
