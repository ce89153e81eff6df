use Rattle.std.proofs.Common.{arith, rules, ap, refl}
use Rattle.cx_exec.proofs.TallyLemmas.{execute_interrupt, execute_more, none_so_far, row_interrupt, row_more, slow_entry, slow_interrupt, slow_more}
use Rattle.cx_exec.specs.Machine.{machine}
use Rattle.cx_code.specs.Table.{operation_row}
use Rattle.cx_exec.proofs.tallied.pass.Goals as goal

pub loop-left-init : goal.loop-left-init
loop-left-init g c = none_so_far c.args.steps _ _

pub register_rows-requires : goal.register_rows-requires
unfolding operation_row
register_rows-requires g c = search rules

pub register_storage_rows-requires : goal.register_storage_rows-requires
unfolding operation_row
register_storage_rows-requires g c = search rules

pub immediate_rows-requires : goal.immediate_rows-requires
unfolding operation_row
immediate_rows-requires g c = search rules

pub strings_effect-requires : goal.strings_effect-requires
unfolding operation_row
strings_effect-requires g c = search rules

pub loop-left-preserved-in-Ok : goal.loop-left-preserved-in-Ok
unfolding operation_row
loop-left-preserved-in-Ok g c =
    row_more _ _ 2 _ _ _ _ _ _ _ _ _ c.loop-left.invariant (omega arith) (ap (machine c.loop-left.cpu) c.fetch_fast.ensures.same) c.in-Some.ensures.performed c.in-Some.ensures.apart (search rules)
    c.in-Some.ensures.following c.in-Some.ensures.target (search rules) c.in-Ok.ensures.effect (search rules)

pub returns-in-Err : goal.returns-in-Err
returns-in-Err g c =
    row_interrupt _ _ _ _ _ _ _ _ _ _ _ _ c.loop-left.invariant (omega arith) (ap (machine c.loop-left.cpu) c.fetch_fast.ensures.same) c.in-Some.ensures.performed c.in-Some.ensures.apart (search rules)
    c.in-Err.ensures.effect (search rules)

pub loop-left-preserved-in-Ok-register_storage_rows : goal.loop-left-preserved-in-Ok-register_storage_rows
unfolding operation_row
loop-left-preserved-in-Ok-register_storage_rows g c =
    row_more _ _ 4 _ _ _ _ _ _ _ _ _ c.loop-left.invariant (omega arith) (ap (machine c.loop-left.cpu) c.fetch_fast.ensures.same) c.in-Some.ensures.performed c.in-Some.ensures.apart (search rules)
    c.in-Some.ensures.following c.in-Some.ensures.target (search rules) c.in-Ok-register_storage_rows.ensures.effect (search rules)

pub returns-in-Err-register_storage_rows : goal.returns-in-Err-register_storage_rows
returns-in-Err-register_storage_rows g c =
    row_interrupt _ _ _ _ _ _ _ _ _ _ _ _ c.loop-left.invariant (omega arith) (ap (machine c.loop-left.cpu) c.fetch_fast.ensures.same) c.in-Some.ensures.performed c.in-Some.ensures.apart (search rules)
    c.in-Err-register_storage_rows.ensures.effect (search rules)

pub loop-left-preserved-in-Ok-word_rows : goal.loop-left-preserved-in-Ok-word_rows
unfolding operation_row
loop-left-preserved-in-Ok-word_rows g c =
    row_more _ _ 4 _ _ _ _ _ _ _ _ _ c.loop-left.invariant (omega arith) (ap (machine c.loop-left.cpu) c.fetch_fast.ensures.same) c.in-Some.ensures.performed c.in-Some.ensures.apart (search rules)
    c.in-Some.ensures.following c.in-Some.ensures.target (search rules) c.in-Ok-word_rows.ensures.effect (search rules)

pub returns-in-Err-word_rows : goal.returns-in-Err-word_rows
returns-in-Err-word_rows g c =
    row_interrupt _ _ _ _ _ _ _ _ _ _ _ _ c.loop-left.invariant (omega arith) (ap (machine c.loop-left.cpu) c.fetch_fast.ensures.same) c.in-Some.ensures.performed c.in-Some.ensures.apart (search rules)
    c.in-Err-word_rows.ensures.effect (search rules)

pub loop-left-preserved-in-Ok-word_result_rows : goal.loop-left-preserved-in-Ok-word_result_rows
unfolding operation_row
loop-left-preserved-in-Ok-word_result_rows g c =
    row_more _ _ 4 _ _ _ _ _ _ _ _ _ c.loop-left.invariant (omega arith) (ap (machine c.loop-left.cpu) c.fetch_fast.ensures.same) c.in-Some.ensures.performed c.in-Some.ensures.apart (search rules)
    c.in-Some.ensures.following c.in-Some.ensures.target (search rules) c.in-Ok-word_result_rows.ensures.effect (search rules)

pub returns-in-Err-word_result_rows : goal.returns-in-Err-word_result_rows
returns-in-Err-word_result_rows g c =
    row_interrupt _ _ _ _ _ _ _ _ _ _ _ _ c.loop-left.invariant (omega arith) (ap (machine c.loop-left.cpu) c.fetch_fast.ensures.same) c.in-Some.ensures.performed c.in-Some.ensures.apart (search rules)
    c.in-Err-word_result_rows.ensures.effect (search rules)

pub loop-left-preserved-in-Ok-half_rows : goal.loop-left-preserved-in-Ok-half_rows
unfolding operation_row
loop-left-preserved-in-Ok-half_rows g c =
    row_more _ _ 4 _ _ _ _ _ _ _ _ _ c.loop-left.invariant (omega arith) (ap (machine c.loop-left.cpu) c.fetch_fast.ensures.same) c.in-Some.ensures.performed c.in-Some.ensures.apart (search rules)
    c.in-Some.ensures.following c.in-Some.ensures.target (search rules) c.in-Ok-half_rows.ensures.effect (search rules)

pub returns-in-Err-half_rows : goal.returns-in-Err-half_rows
returns-in-Err-half_rows g c =
    row_interrupt _ _ _ _ _ _ _ _ _ _ _ _ c.loop-left.invariant (omega arith) (ap (machine c.loop-left.cpu) c.fetch_fast.ensures.same) c.in-Some.ensures.performed c.in-Some.ensures.apart (search rules)
    c.in-Err-half_rows.ensures.effect (search rules)

pub loop-left-preserved-in-Ok-indexed_rows : goal.loop-left-preserved-in-Ok-indexed_rows
unfolding operation_row
loop-left-preserved-in-Ok-indexed_rows g c =
    row_more _ _ 4 _ _ _ _ _ _ _ _ _ c.loop-left.invariant (omega arith) (ap (machine c.loop-left.cpu) c.fetch_fast.ensures.same) c.in-Some.ensures.performed c.in-Some.ensures.apart (search rules)
    c.in-Some.ensures.following c.in-Some.ensures.target (search rules) c.in-Ok-indexed_rows.ensures.effect (search rules)

pub returns-in-Err-indexed_rows : goal.returns-in-Err-indexed_rows
returns-in-Err-indexed_rows g c =
    row_interrupt _ _ _ _ _ _ _ _ _ _ _ _ c.loop-left.invariant (omega arith) (ap (machine c.loop-left.cpu) c.fetch_fast.ensures.same) c.in-Some.ensures.performed c.in-Some.ensures.apart (search rules)
    c.in-Err-indexed_rows.ensures.effect (search rules)

pub loop-left-preserved-in-Ok-immediate_rows : goal.loop-left-preserved-in-Ok-immediate_rows
unfolding operation_row
loop-left-preserved-in-Ok-immediate_rows g c =
    row_more _ _ 4 _ _ _ _ _ _ _ _ _ c.loop-left.invariant (omega arith) (ap (machine c.loop-left.cpu) c.fetch_fast.ensures.same) c.in-Some.ensures.performed c.in-Some.ensures.apart (search rules)
    c.in-Some.ensures.following c.in-Some.ensures.target (search rules) c.in-Ok-immediate_rows.ensures.effect (search rules)

pub returns-in-Err-immediate_rows : goal.returns-in-Err-immediate_rows
returns-in-Err-immediate_rows g c =
    row_interrupt _ _ _ _ _ _ _ _ _ _ _ _ c.loop-left.invariant (omega arith) (ap (machine c.loop-left.cpu) c.fetch_fast.ensures.same) c.in-Some.ensures.performed c.in-Some.ensures.apart (search rules)
    c.in-Err-immediate_rows.ensures.effect (search rules)

pub loop-left-preserved-in-Ok-strings_effect : goal.loop-left-preserved-in-Ok-strings_effect
unfolding operation_row
loop-left-preserved-in-Ok-strings_effect g c =
    row_more _ _ 6 _ _ _ _ _ _ _ _ _ c.loop-left.invariant (omega arith) (ap (machine c.loop-left.cpu) c.fetch_fast.ensures.same) c.in-Some.ensures.performed c.in-Some.ensures.apart (search rules)
    c.in-Some.ensures.following c.in-Some.ensures.target (search rules) c.in-Ok-strings_effect.ensures.effect (search rules)

pub returns-in-Err-strings_effect : goal.returns-in-Err-strings_effect
returns-in-Err-strings_effect g c =
    row_interrupt _ _ _ _ _ _ _ _ _ _ _ _ c.loop-left.invariant (omega arith) (ap (machine c.loop-left.cpu) c.fetch_fast.ensures.same) c.in-Some.ensures.performed c.in-Some.ensures.apart (search rules)
    c.in-Err-strings_effect.ensures.effect (search rules)

pub loop-left-preserved : goal.loop-left-preserved
unfolding operation_row
loop-left-preserved g c =
    execute_more _ _ _ _ _ _ _ _ c.in-Some.found.prefix _ _ _ c.loop-left.invariant (omega arith) (ap (machine c.loop-left.cpu) c.fetch_fast.ensures.same) c.in-Some.ensures.apart (search rules)
    c.in-Some.ensures.following c.in-Some.ensures.target c.indexed_of-target.ensures.operand c.in-Ok-execute_found.ensures c.count_done.ensures

pub returns-in-Err-execute_found : goal.returns-in-Err-execute_found
returns-in-Err-execute_found g c =
    execute_interrupt _ _ _ _ _ _ _ _ _ _ c.loop-left.invariant (omega arith) (ap (machine c.loop-left.cpu) c.fetch_fast.ensures.same) c.in-Some.ensures.apart
    c.in-Err-execute_found.ensures c.count-in-Err-execute_found.ensures

pub loop-left-preserved-in-Done : goal.loop-left-preserved-in-Done
loop-left-preserved-in-Done g c =
    slow_more _ _ _ _ _ _ _ _ _ c.loop-left.invariant (omega arith) (ap (machine c.loop-left.cpu) c.fetch_fast.ensures.same) c.in-Done.ensures.steps c.in-Done.ensures.counted

pub returns-in-AtEntry : goal.returns-in-AtEntry
returns-in-AtEntry g c =
    slow_entry _ _ _ _ _ _ _ _ _ c.loop-left.invariant (omega arith) (ap (machine c.loop-left.cpu) c.fetch_fast.ensures.same) c.in-AtEntry.ensures.steps c.in-AtEntry.ensures.counted

pub returns-in-Interrupt : goal.returns-in-Interrupt
returns-in-Interrupt g c =
    slow_interrupt _ _ _ _ _ _ _ _ _ _ _ c.loop-left.invariant (omega arith) (ap (machine c.loop-left.cpu) c.fetch_fast.ensures.same) c.in-Interrupt.ensures.steps refl
    c.in-Interrupt.ensures.counted
