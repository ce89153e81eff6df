use Rattle.std.proofs.Common.{Err, arith, subst, ◌≡◌, Result, Ok, IsOk}
use Rattle.cx_region.specs.Facts.Stopped.{stopped_at, stopped_unbegun}
use Rattle.cx_region.specs.Sound.{IsSound}
use Rattle.cx_edf.specs.Runs.{EdfRun, MayTakeEdf}
use Rattle.cx_edf.specs.State.{EdfState}
use Rattle.cx_edf.proofs.RunLemmas.{run_more, run_none}
use Rattle.cx_edf.proofs.debugged.Debugged.run.Goals as goal

not_ok : {A E : Type 0} (r : Result A E) (e : E) → r ≡ Err e → IsOk r → ⊥
not_ok (Ok a) e is ok = cc
not_ok (Err f) e is ok = cc

pub returns-in_default-clause-stopped : goal.returns-in_default-clause-stopped
returns-in_default-clause-stopped g c =
    stopped_unbegun (EdfRun g.M.MakesDisplays.make) MayTakeEdf c.args.self.now c.args.events.now (run_none _ c.args.self.now c.args.events.now) (λ none. not_ok c.with_capacity.result _ c.in_default.is (c.with_capacity.ensures.succeeds none))

pub loop-i-init : goal.loop-i-init
loop-i-init g c =
    (rw c.in-Ok.ensures.items (run_none _ c.args.self.now c.args.events.now), subst (λ (s : EdfState). IsSound s.region) c.self.view_is c.self.invariant, c.in-Ok.ensures.len, c.in-Ok.ensures.capacity)

pub loop-i-preserved : goal.loop-i-preserved
loop-i-preserved g c = (
  rw c.push_reserved.ensures.items
      (run_more _ c.args.self.now c.loop-i.self c.apply.new.self c.args.events.now c.loop-i.i c.index-events-i.result _ c.in-Ok-apply.given c.loop-i-test.true c.index-events-i.is c.loop-i.invariant.0 c.in-Ok-apply.ensures.done.applies),
  c.in-Ok-apply.ensures.sound,
  omega (arith, c.push_reserved.ensures.len, c.loop-i.invariant.2),
  rw c.push_reserved.ensures.capacity c.loop-i.invariant.3,
)

pub returns-in_default-apply-clause-stopped : goal.returns-in_default-apply-clause-stopped
returns-in_default-apply-clause-stopped g c =
    stopped_at (EdfRun g.M.MakesDisplays.make) MayTakeEdf c.args.self.now c.loop-i.self c.apply.new.self c.args.events.now c.loop-i.i c.index-events-i.result _ c.loop-i-test.true c.index-events-i.is
    c.loop-i.invariant.0 c.in_default-apply.ensures.done.err c.in_default-apply.ensures.done.memory
