use Rattle.std.proofs.Common.{arith, rules, ap, refl}
use Rattle.cx_exec.proofs.WatchLemmas.{none_so_far, row_more, row_interrupt, execute_more, execute_interrupt, slow_more, slow_entry, slow_interrupt}
use Rattle.cx_exec.specs.Machine.{machine}
use Rattle.cx_code.specs.Table.{operation_row}
use Rattle.cx_exec.proofs.watched.pass.Goals as goal

pub loop-left-init : goal.loop-left-init
loop-left-init g c = none_so_far _ _ c.args.steps _ _ c.requires

pub register_rows-requires : goal.register_rows-requires
unfolding operation_row
register_rows-requires g c = search rules

pub register_storage_rows-requires : goal.register_storage_rows-requires
unfolding operation_row
register_storage_rows-requires g c = search rules

pub immediate_rows-requires : goal.immediate_rows-requires
unfolding operation_row
immediate_rows-requires g c = search rules

pub strings_effect-requires : goal.strings_effect-requires
unfolding operation_row
strings_effect-requires g c = search rules

pub loop-left-preserved-in-Ok : goal.loop-left-preserved-in-Ok
loop-left-preserved-in-Ok g c =
    row_more _ _ _ _ _ _ _ _ _ _ _ _ _ c.loop-left.invariant (omega arith) (ap (machine c.loop-left.cpu) c.fetch_fast.ensures.same)
    c.in-Some.ensures.performed c.in-Some.ensures.apart (search rules) c.in-Ok.ensures.effect (search rules)

pub returns-in-Err : goal.returns-in-Err
returns-in-Err g c =
    row_interrupt _ _ _ _ _ _ _ _ _ _ _ _ _ _ c.loop-left.invariant (omega arith) (ap (machine c.loop-left.cpu) c.fetch_fast.ensures.same)
    c.in-Some.ensures.performed c.in-Some.ensures.apart (search rules) c.in-Err.ensures.effect (search rules)

pub loop-left-preserved-in-Continue-branch-3 : goal.loop-left-preserved-in-Continue-branch-3
loop-left-preserved-in-Continue-branch-3 g c =
    row_more _ _ _ _ _ _ _ _ _ _ _ _ _ c.loop-left.invariant (omega arith) (ap (machine c.loop-left.cpu) c.fetch_fast.ensures.same)
    c.in-Some.ensures.performed c.in-Some.ensures.apart (search rules) c.in-Ok-register_storage_rows.ensures.effect (search rules)

pub returns-in-Err-register_storage_rows : goal.returns-in-Err-register_storage_rows
returns-in-Err-register_storage_rows g c =
    row_interrupt _ _ _ _ _ _ _ _ _ _ _ _ _ _ c.loop-left.invariant (omega arith) (ap (machine c.loop-left.cpu) c.fetch_fast.ensures.same)
    c.in-Some.ensures.performed c.in-Some.ensures.apart (search rules) c.in-Err-register_storage_rows.ensures.effect (search rules)

pub loop-left-preserved-in-Ok-word_rows : goal.loop-left-preserved-in-Ok-word_rows
loop-left-preserved-in-Ok-word_rows g c =
    row_more _ _ _ _ _ _ _ _ _ _ _ _ _ c.loop-left.invariant (omega arith) (ap (machine c.loop-left.cpu) c.fetch_fast.ensures.same)
    c.in-Some.ensures.performed c.in-Some.ensures.apart (search rules) c.in-Ok-word_rows.ensures.effect (search rules)

pub returns-in-Err-word_rows : goal.returns-in-Err-word_rows
returns-in-Err-word_rows g c =
    row_interrupt _ _ _ _ _ _ _ _ _ _ _ _ _ _ c.loop-left.invariant (omega arith) (ap (machine c.loop-left.cpu) c.fetch_fast.ensures.same)
    c.in-Some.ensures.performed c.in-Some.ensures.apart (search rules) c.in-Err-word_rows.ensures.effect (search rules)

pub loop-left-preserved-in-Ok-word_result_rows : goal.loop-left-preserved-in-Ok-word_result_rows
loop-left-preserved-in-Ok-word_result_rows g c =
    row_more _ _ _ _ _ _ _ _ _ _ _ _ _ c.loop-left.invariant (omega arith) (ap (machine c.loop-left.cpu) c.fetch_fast.ensures.same)
    c.in-Some.ensures.performed c.in-Some.ensures.apart (search rules) c.in-Ok-word_result_rows.ensures.effect (search rules)

pub returns-in-Err-word_result_rows : goal.returns-in-Err-word_result_rows
returns-in-Err-word_result_rows g c =
    row_interrupt _ _ _ _ _ _ _ _ _ _ _ _ _ _ c.loop-left.invariant (omega arith) (ap (machine c.loop-left.cpu) c.fetch_fast.ensures.same)
    c.in-Some.ensures.performed c.in-Some.ensures.apart (search rules) c.in-Err-word_result_rows.ensures.effect (search rules)

pub loop-left-preserved-in-Ok-half_rows : goal.loop-left-preserved-in-Ok-half_rows
loop-left-preserved-in-Ok-half_rows g c =
    row_more _ _ _ _ _ _ _ _ _ _ _ _ _ c.loop-left.invariant (omega arith) (ap (machine c.loop-left.cpu) c.fetch_fast.ensures.same)
    c.in-Some.ensures.performed c.in-Some.ensures.apart (search rules) c.in-Ok-half_rows.ensures.effect (search rules)

pub returns-in-Err-half_rows : goal.returns-in-Err-half_rows
returns-in-Err-half_rows g c =
    row_interrupt _ _ _ _ _ _ _ _ _ _ _ _ _ _ c.loop-left.invariant (omega arith) (ap (machine c.loop-left.cpu) c.fetch_fast.ensures.same)
    c.in-Some.ensures.performed c.in-Some.ensures.apart (search rules) c.in-Err-half_rows.ensures.effect (search rules)

pub loop-left-preserved-in-Continue-branch-8 : goal.loop-left-preserved-in-Continue-branch-8
loop-left-preserved-in-Continue-branch-8 g c =
    row_more _ _ _ _ _ _ _ _ _ _ _ _ _ c.loop-left.invariant (omega arith) (ap (machine c.loop-left.cpu) c.fetch_fast.ensures.same)
    c.in-Some.ensures.performed c.in-Some.ensures.apart (search rules) c.in-Ok-indexed_rows.ensures.effect (search rules)

pub returns-in-Err-indexed_rows : goal.returns-in-Err-indexed_rows
returns-in-Err-indexed_rows g c =
    row_interrupt _ _ _ _ _ _ _ _ _ _ _ _ _ _ c.loop-left.invariant (omega arith) (ap (machine c.loop-left.cpu) c.fetch_fast.ensures.same)
    c.in-Some.ensures.performed c.in-Some.ensures.apart (search rules) c.in-Err-indexed_rows.ensures.effect (search rules)

pub loop-left-preserved-in-Continue-branch-10 : goal.loop-left-preserved-in-Continue-branch-10
loop-left-preserved-in-Continue-branch-10 g c =
    row_more _ _ _ _ _ _ _ _ _ _ _ _ _ c.loop-left.invariant (omega arith) (ap (machine c.loop-left.cpu) c.fetch_fast.ensures.same)
    c.in-Some.ensures.performed c.in-Some.ensures.apart (search rules) c.in-Ok-immediate_rows.ensures.effect (search rules)

pub returns-in-Err-immediate_rows : goal.returns-in-Err-immediate_rows
returns-in-Err-immediate_rows g c =
    row_interrupt _ _ _ _ _ _ _ _ _ _ _ _ _ _ c.loop-left.invariant (omega arith) (ap (machine c.loop-left.cpu) c.fetch_fast.ensures.same)
    c.in-Some.ensures.performed c.in-Some.ensures.apart (search rules) c.in-Err-immediate_rows.ensures.effect (search rules)

pub loop-left-preserved-in-Continue-branch-12 : goal.loop-left-preserved-in-Continue-branch-12
loop-left-preserved-in-Continue-branch-12 g c =
    row_more _ _ _ _ _ _ _ _ _ _ _ _ _ c.loop-left.invariant (omega arith) (ap (machine c.loop-left.cpu) c.fetch_fast.ensures.same)
    c.in-Some.ensures.performed c.in-Some.ensures.apart (search rules) c.in-Ok-strings_effect.ensures.effect (search rules)

pub returns-in-Err-strings_effect : goal.returns-in-Err-strings_effect
returns-in-Err-strings_effect g c =
    row_interrupt _ _ _ _ _ _ _ _ _ _ _ _ _ _ c.loop-left.invariant (omega arith) (ap (machine c.loop-left.cpu) c.fetch_fast.ensures.same)
    c.in-Some.ensures.performed c.in-Some.ensures.apart (search rules) c.in-Err-strings_effect.ensures.effect (search rules)

pub loop-left-preserved : goal.loop-left-preserved
loop-left-preserved g c =
    execute_more _ _ _ _ _ _ _ _ _ _ _ c.loop-left.invariant (omega arith) (ap (machine c.loop-left.cpu) c.fetch_fast.ensures.same)
    c.in-Some.ensures.apart c.in-Ok-execute_found.ensures (search rules)

pub returns-in-Err-execute_found : goal.returns-in-Err-execute_found
returns-in-Err-execute_found g c =
    execute_interrupt _ _ _ _ _ _ _ _ _ _ _ _ c.loop-left.invariant (omega arith) (ap (machine c.loop-left.cpu) c.fetch_fast.ensures.same)
    c.in-Some.ensures.apart c.in-Err-execute_found.ensures (search rules)

pub loop-left-preserved-in-Done : goal.loop-left-preserved-in-Done
loop-left-preserved-in-Done g c =
    slow_more _ _ _ _ _ _ _ _ _ _ _ c.loop-left.invariant (omega arith) (ap (machine c.loop-left.cpu) c.fetch_fast.ensures.same)
    (rw c.in-Done.is at c.in_ok-end.ensures.steps) (rw c.in-Done.is at c.in_ok-end.ensures.noted)

pub returns-in-AtEntry : goal.returns-in-AtEntry
returns-in-AtEntry g c =
    slow_entry _ _ _ _ _ _ _ _ _ _ _ c.loop-left.invariant (omega arith) (ap (machine c.loop-left.cpu) c.fetch_fast.ensures.same)
    (rw c.in-AtEntry.is at c.in_ok-end.ensures.steps) (rw c.in-AtEntry.is at c.in_ok-end.ensures.noted)

pub returns-in-Interrupt : goal.returns-in-Interrupt
returns-in-Interrupt g c =
    slow_interrupt _ _ _ _ _ _ _ _ _ _ _ _ _ c.loop-left.invariant (omega arith) (ap (machine c.loop-left.cpu) c.fetch_fast.ensures.same)
    (rw c.in-Interrupt.is at c.in_ok-end.ensures.steps) refl (rw c.in-Interrupt.is at c.in_ok-end.ensures.noted)
