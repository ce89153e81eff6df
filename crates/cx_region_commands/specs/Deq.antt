-- DEQ (Application Programmer's Reference Manual, SC33-0077, "Task Control").
--   DEQ RESOURCE(bytes, in, or an address) [LENGTH(halfword, in)]
-- LENGERR: LENGTH is outside 1 to 255. Else, where this task owns the resource, it owns it once less, and at zero the
-- resource is free; another task's stays. Reply: Performed.
use Rattle.std.specs.Prelude.{if◌then◌else◌}
use Rattle.cx_base.specs.declared.conditions.Condition.TheVariants.{Lengerr}
use Rattle.cx_storage.specs.Storage.{Storage}
use Rattle.cx_region_state.specs.Call.{Call}
use Rattle.cx_region_state.specs.declared.verdict.TaskChange.TheVariants.{After}
use Rattle.cx_region_state.specs.declared.verdict.AfterOutputs.TheVariants.{Dequeues}
use Rattle.cx_region_state.specs.declared.verdict.Verdict.{Verdict}
use Rattle.cx_region_commands.specs.Common.{does, condition_alone}
use Rattle.cx_region_commands.specs.Enq.{is_wrong_length, resource_at}

unfoldable pub deq_row : Storage → Call → Verdict
deq_row storage call =
    if is_wrong_length storage call then condition_alone Lengerr else does (After (Dequeues (resource_at storage call)))
