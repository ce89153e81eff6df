use Rattle.std.proofs.Common.{arith, subst, Err, IsOk, ◌≡◌, Result, Ok}
use Rattle.cx_region.specs.Events.{Run, MayTakeMemory}
use Rattle.cx_region.specs.Facts.Stopped.{stopped_at, stopped_unbegun}
use Rattle.cx_region.specs.Sound.{IsSound}
use Rattle.cx_region.proofs.RunLemmas.{run_more, run_none}
use Rattle.cx_region.proofs.state.Region.run.Goals as goal

not_ok : {A E : Type 0} (r : Result A E) (e : E) → r ≡ Err e → IsOk r → ⊥
not_ok (Ok a) e is ok = cc
not_ok (Err f) e is ok = cc

pub returns-in_default-clause-stopped : goal.returns-in_default-clause-stopped
returns-in_default-clause-stopped g c =
    stopped_unbegun Run MayTakeMemory c.args.self.now c.args.events.now (run_none c.args.self.now c.args.events.now) (λ none. not_ok c.with_capacity.result _ c.in_default.is (c.with_capacity.ensures.succeeds none))

pub loop-i-init : goal.loop-i-init
loop-i-init g c =
    (rw c.in-Ok.ensures.items (run_none c.args.self.now c.args.events.now), subst IsSound c.self.view_is c.self.invariant, c.in-Ok.ensures.len, c.in-Ok.ensures.capacity)

pub loop-i-preserved : goal.loop-i-preserved
loop-i-preserved g c = (
  rw c.push_reserved.ensures.items
      (run_more c.args.self.now c.loop-i.self c.apply.new.self c.args.events.now c.loop-i.i c.index-events-i.result _ c.in-Ok-apply.reply c.loop-i-test.true c.index-events-i.is c.loop-i.invariant.0 c.in-Ok-apply.ensures.done.applies),
  c.in-Ok-apply.ensures.sound,
  omega (arith, c.push_reserved.ensures.len, c.loop-i.invariant.2),
  rw c.push_reserved.ensures.capacity c.loop-i.invariant.3,
)

pub returns-in_default-apply-clause-stopped : goal.returns-in_default-apply-clause-stopped
returns-in_default-apply-clause-stopped g c =
    stopped_at Run MayTakeMemory c.args.self.now c.loop-i.self c.apply.new.self c.args.events.now c.loop-i.i c.index-events-i.result _ c.loop-i-test.true c.index-events-i.is
    c.loop-i.invariant.0 c.in_default-apply.ensures.done.err c.in_default-apply.ensures.done.memory
