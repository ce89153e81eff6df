use Rattle.std.proofs.Common.{append-nil, arith, sym}
use Rattle.cx_program.specs.Levels.{all_levels}
use Rattle.cx_look_ahead.specs.After.{caller_fields}
use Rattle.cx_look_ahead.proofs.AfterLemmas.{callers_done, callers_go_on}
use Rattle.cx_look_ahead.proofs.after.TaskThen.caller_fields.Goals as goal

pub loop-index-init : goal.loop-index-init
unfolding caller_fields
loop-index-init g c = (sym (append-nil _), omega arith)

pub loop-index-preserved : goal.loop-index-preserved
loop-index-preserved g c = (
  callers_go_on _ _ _ _ (all_levels c.args.levels.now) c.loop-index.index _ _ _ c.in_ok-caller_at.ensures c.loop-index.invariant.0,
  omega (arith, c.loop-index-test.true, c.len-index-end.ensures.callers),
)

pub returns : goal.returns
returns g c =
    callers_done _ _ _ _ c.args.levels.now c.loop-index.index _ _ c.loop-index.invariant.1
    (omega (arith, c.loop-index-test.false, c.len-index-end.ensures.callers)) c.loop-index.invariant.0
