-- HANDLE CONDITION, IGNORE CONDITION, PUSH HANDLE, POP HANDLE (Application Programmer's Reference Manual, SC33-0077,
-- "Exceptional Conditions").
--   HANDLE CONDITION condition[(label)] ..   IGNORE CONDITION condition ..   PUSH HANDLE   POP HANDLE
-- HANDLE CONDITION: each condition's label takes control; one without a label has no entry any more. IGNORE CONDITION:
-- the program goes on. PUSH HANDLE keeps entries and exit, and begins with none; INVREQ: sixteen are kept. POP HANDLE
-- puts the last kept back; INVREQ: none is kept. All of the current level. Reply: Performed.
use Rattle.std.specs.Prelude.{List, [], ◌∷◌, length, nat_lt, if◌then◌else◌}
use Rattle.cx_base.specs.declared.conditions.Condition.TheVariants.{Invreq}
use Rattle.cx_program.specs.declared.entries.Handling.{Handling}
use Rattle.cx_region_state.specs.Call.{Call}
use Rattle.cx_region_state.specs.Listed.{listed_of}
use Rattle.cx_region_state.specs.declared.verdict.TaskChange.TheVariants.{Before}
use Rattle.cx_region_state.specs.declared.verdict.BeforeOutputs.TheVariants.{Handles}
use Rattle.cx_region_state.specs.declared.verdict.Request.{Request}
use Rattle.cx_region_state.specs.declared.verdict.Request.TheVariants.{Handle, Ignore, Push, Pop}
use Rattle.cx_region_state.specs.declared.verdict.Verdict.{Verdict}
use Rattle.cx_region_commands.specs.Common.{does, condition_alone}

-- the current level is asked to handle conditions so
abbrev pub asks : Request → Verdict
asks request = does (Before (Handles request))

unfoldable pub handle_row : Call → Verdict
handle_row call = asks (Handle (listed_of call))

unfoldable pub ignore_row : Call → Verdict
ignore_row call = asks (Ignore (listed_of call))

-- by what the current level keeps
unfoldable pub push_row : List Handling → Verdict
push_row kept = if nat_lt (length kept) 16 then asks Push else condition_alone Invreq

unfoldable pub pop_row : List Handling → Verdict
pop_row [] = condition_alone Invreq
pop_row (last ∷ rest) = asks Pop
