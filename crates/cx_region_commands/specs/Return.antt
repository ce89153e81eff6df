-- RETURN (Application Programmer's Reference Manual, SC33-0077, "Program Control").
--   RETURN [TRANSID(name)] [COMMAREA(bytes, in) LENGTH(halfword, in)]
-- At a lower level INVREQ: TRANSID or COMMAREA is there; else the level ends, and the linking one goes on. Reply:
-- Returned.
-- At the highest level INVREQ: COMMAREA is there without TRANSID; LENGERR: LENGTH is negative; else the task ends, and
-- TRANSID and a copy of the COMMAREA are kept for the terminal. Reply: Ended.
use Rattle.std.specs.Prelude.{◌&&◌, ◌||◌, not, List, [], ◌∷◌, Option, if◌then◌else◌}
use Rattle.std.specs.Option.{option_map}
use Rattle.cx_base.specs.declared.conditions.Condition.TheVariants.{Invreq, Lengerr}
use Rattle.cx_base.specs.declared.options.OptionName.TheVariants.{Commarea, Transid}
use Rattle.cx_storage.specs.Storage.{Storage}
use Rattle.cx_program.specs.declared.level.Level.{Level}
use Rattle.cx_region_state.specs.Call.{Call}
use Rattle.cx_region_state.specs.Inputs.{bytes_of, is_length_negative}
use Rattle.cx_region_state.specs.declared.verdict.TaskChange.TheVariants.{LevelEnds, TaskEnds}
use Rattle.cx_region_state.specs.declared.verdict.RequestedTransaction.{RequestedTransaction}
use Rattle.cx_region_state.specs.declared.verdict.Verdict.{Verdict}
use Rattle.cx_region_commands.specs.Common.{commarea_of, does, has, condition_alone}

-- what the terminal's next key attaches
unfoldable pub next_of : Storage → Call → Option RequestedTransaction
next_of storage call =
    option_map (λ tran. record { tran = tran; commarea = commarea_of storage call }) (bytes_of storage call Transid 4)

abbrev pub highest_return : Storage → Call → Verdict
highest_return storage call =
    if has call Commarea && not (has call Transid) then condition_alone Invreq
    else if is_length_negative storage call then condition_alone Lengerr
    else does (TaskEnds (next_of storage call))

-- by the levels that called the current one
unfoldable pub return_row : Storage → List Level → Call → Verdict
return_row storage [] call = highest_return storage call
return_row storage (caller ∷ callers) call =
    if has call Transid || has call Commarea then condition_alone Invreq else does LevelEnds
