use Rattle.std.proofs.Common.{ap, map, refl, rules, List, ℕ, Bor}
use Rattle.cx_asm_pass1.specs.Parts.Checking.{checked_in}
use Rattle.cx_asm_pass1.specs.Parts.Passing.{state_of}
use Rattle.cx_asm_pass1.specs.declared.checked.Checked.{Checked}
use Rattle.cx_asm_pass1.proofs.TakeLemmas.{fault_reported, taken}
use Rattle.cx_asm_pass1.proofs.pass.Pass.take.Goals as goal

pub returns-clause-state : goal.returns-clause-state
unfolding checked_in
returns-clause-state c =
    taken c.args.line c.args.stmt.now (state_of c.args.self.now) c.heading-heading.result c.in_ok-extent.field-0.extent c.in_ok-extent.field-0.value c.in_ok-extent.field-0.fault
    (map {A = Bor (List ℕ)} (λ part. part.now) c.as_slice-2.result.now) c.len-user.result c.len-number.result
    c.in_ok-literals.literals c.lower-lowest.result _
    c.heading-heading.ensures
    (ap (λ (x : Checked). x.extent) c.in_ok-extent.ensures)
    (ap (λ (x : Checked). x.value) c.in_ok-extent.ensures)
    (ap (λ (x : Checked). x.fault) c.in_ok-extent.ensures)
    (rw (c.as_slice-2.ensures.value, c.in_ok-parts.ensures, c.as_slice-operand.ensures) refl)
    (search rules) (search rules)
    c.section_after-self.ensures
    c.control_after-self.ensures
    c.in_ok-set_length.ensures
    (rw c.as_slice-operand.ensures at c.in_ok-define_all.ensures)
    c.in_ok-literals.ensures.pool
    c.in_ok-close_pool.ensures
    c.in_ok-push.ensures.items
    c.in_ok-literals.ensures.fault
    c.lower-lowest.ensures
    c.first_fault_after-self.ensures

pub returns-clause-fault : goal.returns-clause-fault
unfolding checked_in
returns-clause-fault c =
    fault_reported c.args.stmt.now (state_of c.args.self.now) c.heading-heading.result c.in_ok-extent.field-0.fault
    (map {A = Bor (List ℕ)} (λ part. part.now) c.as_slice-2.result.now) c.len-user.result
    c.in_ok-literals.literals c.lower-lowest.result
    c.heading-heading.ensures
    (ap (λ (x : Checked). x.fault) c.in_ok-extent.ensures)
    (rw (c.as_slice-2.ensures.value, c.in_ok-parts.ensures, c.as_slice-operand.ensures) refl)
    (search rules)
    c.in_ok-literals.ensures.fault
    c.lower-lowest.ensures
