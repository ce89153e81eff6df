use Rattle.std.proofs.Common.{take}
use Rattle.cx_look_tasks.specs.Activities.{AreActivities}
use Rattle.cx_look_tasks.proofs.tasks.activities_in.Given as goal

abbrev pub invariant-loop-i : goal.invariant-loop-i
invariant-loop-i g l = AreActivities l.region (take l.i l.region.terminals) l.all.items
