-- SUSPEND (Application Programmer's Reference Manual, SC33-0077, "Task Control").
--   SUSPEND
-- Effect: none. Reply: Performed.
use Rattle.cx_region_state.specs.declared.verdict.Verdict.{Verdict}
use Rattle.cx_region_state.specs.declared.verdict.TaskChange.TheVariants.{Nothing}
use Rattle.cx_region_commands.specs.Common.{does}

unfoldable pub suspend_row : Verdict
suspend_row = does Nothing
