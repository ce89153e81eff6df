use Rattle.std.proofs.Common.{◌≡◌, length}
use Rattle.cx_look_tasks.proofs.TextLemmas.{all_activities, no_activity, one_more_activity}
use Rattle.cx_look_tasks.proofs.tasks.activities_in.Goals as goal

pub loop-i-init : goal.loop-i-init
loop-i-init g c = rw c.new-all.ensures.items (no_activity c.args.region.now c.args.region.now.terminals)

pub loop-i-preserved : goal.loop-i-preserved
loop-i-preserved g c =
    let len : c.len-i-end.result ≡ length c.args.region.now.terminals = rw (← c.terminals.ensures) c.len-i-end.ensures.len in
    one_more_activity c.args.region.now c.args.region.now.terminals c.loop-i.i _ _ _ (rw len at c.loop-i-test.true) c.activity_at-activity.ensures c.in_ok-push.ensures.items c.loop-i.invariant

pub returns : goal.returns
returns g c =
    let len : c.len-i-end.result ≡ length c.args.region.now.terminals = rw (← c.terminals.ensures) c.len-i-end.ensures.len in
    all_activities c.args.region.now c.args.region.now.terminals c.loop-i.i _ (rw len at c.loop-i-test.false) c.loop-i.invariant
