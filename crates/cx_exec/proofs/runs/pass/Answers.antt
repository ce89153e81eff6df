use Rattle.std.proofs.Common.{arith, rules, ap}
use Rattle.cx_exec.proofs.RunLemmas.{passes_start, apart_more, row_more, row_interrupt}
use Rattle.cx_exec.specs.Machine.{machine}
use Rattle.cx_code.specs.Table.{operation_row}
use Rattle.cx_exec.proofs.runs.pass.Goals as goal

pub loop-left-init : goal.loop-left-init
loop-left-init g c = (omega arith, passes_start c.args.steps _)

pub loop-left-preserved-in_default : goal.loop-left-preserved-in_default
loop-left-preserved-in_default g c = (
  omega arith,
  apart_more _ _ _ _ _ _ c.loop-left.invariant.0 (omega arith) c.loop-left.invariant.1 (ap (machine c.loop-left.cpu) c.fetch_fast.ensures.same) (search rules),
)

pub register_rows-requires : goal.register_rows-requires
unfolding operation_row
register_rows-requires g c = search rules

pub register_storage_rows-requires : goal.register_storage_rows-requires
unfolding operation_row
register_storage_rows-requires g c = search rules

pub immediate_rows-requires : goal.immediate_rows-requires
unfolding operation_row
immediate_rows-requires g c = search rules

pub strings_effect-requires : goal.strings_effect-requires
unfolding operation_row
strings_effect-requires g c = search rules

pub loop-left-preserved-in-Ok : goal.loop-left-preserved-in-Ok
loop-left-preserved-in-Ok g c =
    row_more _ _ _ _ _ _ _ _ c.loop-left.invariant (omega arith) (ap (machine c.loop-left.cpu) c.fetch_fast.ensures.same) c.in-Some.ensures.performed c.in-Some.ensures.apart (search rules) c.in-Ok.ensures.effect

pub returns-in-Err-clause-run : goal.returns-in-Err-clause-run
returns-in-Err-clause-run g c =
    row_interrupt _ _ _ _ _ _ _ _ _ c.loop-left.invariant (omega arith) (ap (machine c.loop-left.cpu) c.fetch_fast.ensures.same) c.in-Some.ensures.performed c.in-Some.ensures.apart (search rules) c.in-Err.ensures.effect

pub loop-left-preserved-in-Ok-register_storage_rows : goal.loop-left-preserved-in-Ok-register_storage_rows
loop-left-preserved-in-Ok-register_storage_rows g c =
    row_more _ _ _ _ _ _ _ _ c.loop-left.invariant (omega arith) (ap (machine c.loop-left.cpu) c.fetch_fast.ensures.same) c.in-Some.ensures.performed c.in-Some.ensures.apart (search rules) c.in-Ok-register_storage_rows.ensures.effect

pub returns-in-Err-register_storage_rows-clause-run : goal.returns-in-Err-register_storage_rows-clause-run
returns-in-Err-register_storage_rows-clause-run g c =
    row_interrupt _ _ _ _ _ _ _ _ _ c.loop-left.invariant (omega arith) (ap (machine c.loop-left.cpu) c.fetch_fast.ensures.same) c.in-Some.ensures.performed c.in-Some.ensures.apart (search rules) c.in-Err-register_storage_rows.ensures.effect

pub loop-left-preserved-in-Ok-word_rows : goal.loop-left-preserved-in-Ok-word_rows
loop-left-preserved-in-Ok-word_rows g c =
    row_more _ _ _ _ _ _ _ _ c.loop-left.invariant (omega arith) (ap (machine c.loop-left.cpu) c.fetch_fast.ensures.same) c.in-Some.ensures.performed c.in-Some.ensures.apart (search rules) c.in-Ok-word_rows.ensures.effect

pub returns-in-Err-word_rows-clause-run : goal.returns-in-Err-word_rows-clause-run
returns-in-Err-word_rows-clause-run g c =
    row_interrupt _ _ _ _ _ _ _ _ _ c.loop-left.invariant (omega arith) (ap (machine c.loop-left.cpu) c.fetch_fast.ensures.same) c.in-Some.ensures.performed c.in-Some.ensures.apart (search rules) c.in-Err-word_rows.ensures.effect

pub loop-left-preserved-in-Ok-word_result_rows : goal.loop-left-preserved-in-Ok-word_result_rows
loop-left-preserved-in-Ok-word_result_rows g c =
    row_more _ _ _ _ _ _ _ _ c.loop-left.invariant (omega arith) (ap (machine c.loop-left.cpu) c.fetch_fast.ensures.same) c.in-Some.ensures.performed c.in-Some.ensures.apart (search rules) c.in-Ok-word_result_rows.ensures.effect

pub returns-in-Err-word_result_rows-clause-run : goal.returns-in-Err-word_result_rows-clause-run
returns-in-Err-word_result_rows-clause-run g c =
    row_interrupt _ _ _ _ _ _ _ _ _ c.loop-left.invariant (omega arith) (ap (machine c.loop-left.cpu) c.fetch_fast.ensures.same) c.in-Some.ensures.performed c.in-Some.ensures.apart (search rules) c.in-Err-word_result_rows.ensures.effect

pub loop-left-preserved-in-Ok-half_rows : goal.loop-left-preserved-in-Ok-half_rows
loop-left-preserved-in-Ok-half_rows g c =
    row_more _ _ _ _ _ _ _ _ c.loop-left.invariant (omega arith) (ap (machine c.loop-left.cpu) c.fetch_fast.ensures.same) c.in-Some.ensures.performed c.in-Some.ensures.apart (search rules) c.in-Ok-half_rows.ensures.effect

pub returns-in-Err-half_rows-clause-run : goal.returns-in-Err-half_rows-clause-run
returns-in-Err-half_rows-clause-run g c =
    row_interrupt _ _ _ _ _ _ _ _ _ c.loop-left.invariant (omega arith) (ap (machine c.loop-left.cpu) c.fetch_fast.ensures.same) c.in-Some.ensures.performed c.in-Some.ensures.apart (search rules) c.in-Err-half_rows.ensures.effect

pub loop-left-preserved-in-Ok-indexed_rows : goal.loop-left-preserved-in-Ok-indexed_rows
loop-left-preserved-in-Ok-indexed_rows g c =
    row_more _ _ _ _ _ _ _ _ c.loop-left.invariant (omega arith) (ap (machine c.loop-left.cpu) c.fetch_fast.ensures.same) c.in-Some.ensures.performed c.in-Some.ensures.apart (search rules) c.in-Ok-indexed_rows.ensures.effect

pub returns-in-Err-indexed_rows-clause-run : goal.returns-in-Err-indexed_rows-clause-run
returns-in-Err-indexed_rows-clause-run g c =
    row_interrupt _ _ _ _ _ _ _ _ _ c.loop-left.invariant (omega arith) (ap (machine c.loop-left.cpu) c.fetch_fast.ensures.same) c.in-Some.ensures.performed c.in-Some.ensures.apart (search rules) c.in-Err-indexed_rows.ensures.effect

pub loop-left-preserved-in-Ok-immediate_rows : goal.loop-left-preserved-in-Ok-immediate_rows
loop-left-preserved-in-Ok-immediate_rows g c =
    row_more _ _ _ _ _ _ _ _ c.loop-left.invariant (omega arith) (ap (machine c.loop-left.cpu) c.fetch_fast.ensures.same) c.in-Some.ensures.performed c.in-Some.ensures.apart (search rules) c.in-Ok-immediate_rows.ensures.effect

pub returns-in-Err-immediate_rows-clause-run : goal.returns-in-Err-immediate_rows-clause-run
returns-in-Err-immediate_rows-clause-run g c =
    row_interrupt _ _ _ _ _ _ _ _ _ c.loop-left.invariant (omega arith) (ap (machine c.loop-left.cpu) c.fetch_fast.ensures.same) c.in-Some.ensures.performed c.in-Some.ensures.apart (search rules) c.in-Err-immediate_rows.ensures.effect

pub loop-left-preserved-in-Ok-strings_effect : goal.loop-left-preserved-in-Ok-strings_effect
loop-left-preserved-in-Ok-strings_effect g c =
    row_more _ _ _ _ _ _ _ _ c.loop-left.invariant (omega arith) (ap (machine c.loop-left.cpu) c.fetch_fast.ensures.same) c.in-Some.ensures.performed c.in-Some.ensures.apart (search rules) c.in-Ok-strings_effect.ensures.effect

pub returns-in-Err-strings_effect-clause-run : goal.returns-in-Err-strings_effect-clause-run
returns-in-Err-strings_effect-clause-run g c =
    row_interrupt _ _ _ _ _ _ _ _ _ c.loop-left.invariant (omega arith) (ap (machine c.loop-left.cpu) c.fetch_fast.ensures.same) c.in-Some.ensures.performed c.in-Some.ensures.apart (search rules) c.in-Err-strings_effect.ensures.effect
