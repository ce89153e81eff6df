-- DELETEQ TS (Application Programmer's Reference Manual, SC33-0077, "Temporary Storage Control").
--   DELETEQ TS QUEUE(name)
-- QIDERR: no such queue. Else the queue is gone, with its items and the number last read. Reply: Performed.
use Rattle.std.specs.Prelude.{is_none, if◌then◌else◌}
use Rattle.cx_base.specs.declared.conditions.Condition.TheVariants.{Qiderr}
use Rattle.cx_base.specs.declared.options.OptionName.TheVariants.{Queue}
use Rattle.cx_storage.specs.Storage.{Storage}
use Rattle.cx_service.specs.Queues.{Queues, count_of}
use Rattle.cx_region_state.specs.Call.{Call}
use Rattle.cx_region_state.specs.declared.verdict.TaskChange.TheVariants.{After}
use Rattle.cx_region_state.specs.declared.verdict.AfterOutputs.TheVariants.{QueueGone}
use Rattle.cx_region_state.specs.declared.verdict.Verdict.{Verdict}
use Rattle.cx_region_commands.specs.Common.{does, condition_alone, name_at}

unfoldable pub deleteq_row : Storage → Queues → Call → Verdict
deleteq_row storage queues call =
    let name = name_at storage call Queue in
    if is_none (count_of queues name) then condition_alone Qiderr else does (After (QueueGone name))
