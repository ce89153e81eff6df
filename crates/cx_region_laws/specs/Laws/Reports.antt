-- What a command reports of itself, in the EIB and in RESP's word (Application Programmer's Reference Manual,
-- SC33-0077, "EXEC Interface Block", "Exceptional Conditions"; the layout is this product's own).
use Rattle.std.specs.Prelude.{◌≡◌, ◌⊎◌, ℕ, Bool, true, false, List, [], ◌∷◌, Option, Some, None, Ok, is_some}
use Rattle.std.specs.Option.{option_or}
use Rattle.std.specs.List.{list_any}
use Rattle.std.specs.Int.{w16, w32, to_be_bytes}
use Rattle.cx_base.specs.declared.commands.Command.TheVariants.{Link}
use Rattle.cx_base.specs.declared.conditions.Condition.{Condition}
use Rattle.cx_base.specs.declared.conditions.Condition.TheVariants.{Normal}
use Rattle.cx_base.specs.declared.eib.EibField.{EibField}
use Rattle.cx_base.specs.declared.eib.EibField.TheVariants.{Calen, Fn, Rcode, Resp, Rsrce}
use Rattle.cx_base.specs.declared.options.OptionName.TheVariants.{Program, Queue}
use Rattle.cx_base.specs.Commands.{row_of}
use Rattle.cx_base.specs.Conditions.{entry_of}
use Rattle.cx_base.specs.Eib.{eib_field, eib_len}
use Rattle.cx_storage.specs.Address.{address_after}
use Rattle.cx_storage.specs.Storage.{Storage, span, IsSoundStorage}
use Rattle.cx_service.specs.Queues.{AreSoundQueues}
use Rattle.cx_region_state.specs.declared.outputs.Output.{Output}
use Rattle.cx_region_state.specs.Call.{Call, call_of, resp_place}
use Rattle.cx_region_state.specs.Inputs.{bytes_of}
use Rattle.cx_region_commands.specs.Common.{AreSoundPrograms}
use Rattle.cx_region_commands.specs.CommandVerdicts.{HasVerdict}
use Rattle.cx_region_state.specs.declared.replies.TurnReply.{TurnReply}
use Rattle.cx_region_state.specs.declared.replies.TurnReply.TheVariants as turn
use Rattle.cx_region_state.specs.declared.verdict.TaskChange.{TaskChange}
use Rattle.cx_region_state.specs.declared.verdict.Verdict.TheVariants.{Meets}
use Rattle.cx_region_state.specs.State.{TaskContext}
use Rattle.cx_region_state.specs.Verdicts.{handed_over}
use Rattle.cx_region_task.specs.Performing.{argument_list}
use Rattle.cx_region_task.specs.Sound.{IsSoundTask}
use Rattle.cx_region_task.specs.Turn.{HalfTurn}
use Rattle.cx_region_laws.specs.Laws.Bytes.{is_among, is_in_output}

-- what is sound before a half-turn
pub record IsSoundContext (r : TaskContext) : Type 0 where
  pub storage : IsSoundStorage r.shared.storage
  pub programs : AreSoundPrograms r.shared.programs
  pub queues : AreSoundQueues r.shared.queues
  pub task : IsSoundTask r.shared.storage r.terminal_entry.slot r.task

-- the bytes of a field of the EIB at an address
abbrev pub field_at : Storage → ℕ → EibField → Option (List ℕ)
field_at storage eib field = span storage (address_after eib (eib_field field).offset) (eib_field field).len

-- RESP's word, where the command that is due has one, doesn't lie over the EIB.
abbrev pub IsRespApart : TaskContext → Type 0
IsRespApart r = (call : Call) (x : ℕ) → call_of r.shared.storage (argument_list r.task) ≡ Ok call
    → is_among x (Some r.task.eib) eib_len ≡ true → is_among x (resp_place call) 4 ≡ false

-- nor do outputs of a call, with the text that the command hands over
abbrev pub AreOutputsApart : ℕ → Call → List ℕ → List Output → Type 0
AreOutputsApart eib call text outputs =
    (x : ℕ) → is_among x (Some eib) eib_len ≡ true → list_any (is_in_output x call text) outputs ≡ false

-- ---- the report
-- the name at PROGRAM or QUEUE, of the commands that have one
abbrev pub named_by : Storage → Call → Option (List ℕ)
named_by storage call = option_or (bytes_of storage call Program 8) (bytes_of storage call Queue 8)

-- Of a command with a function value, that met a condition: EIBFN is the value, EIBRCODE and EIBRESP have the
-- condition's number, EIBRSRCE has the name at PROGRAM or QUEUE, of the commands that have one, and RESP's word, as far
-- as it is in storage afterwards, is the condition's number.
pub record Reports (function number : ℕ) (call : Call) (eib : ℕ) (before after : Storage) : Type 0 where
  pub fn : field_at after eib Fn ≡ Some (to_be_bytes w16 function)
  pub rcode : field_at after eib Rcode ≡ Some (number ∷ 0 ∷ 0 ∷ 0 ∷ 0 ∷ 0 ∷ [])
  pub resp : field_at after eib Resp ≡ Some (to_be_bytes w32 number)
  pub rsrce : (name : List ℕ) → named_by before call ≡ Some name → field_at after eib Rsrce ≡ Some name
  pub word : (place : ℕ) → resp_place call ≡ Some place → is_some (span after place 4) ≡ true
      → span after place 4 ≡ Some (to_be_bytes w32 number)

-- the function value that is in EIBFN after a command: its own; after RETURN to a level, LINK's
abbrev pub function_after : TurnReply → Call → ℕ
function_after turn.Returned call = (row_of Link).function
function_after _ call = (row_of call.command).function

-- The command that was due has met the condition, with these outputs, as its row judges it; and it reports that.
pub record HasReported (reply : TurnReply) (condition : Condition) (before after : TaskContext) : Type 0 where
  pub call : Call
  pub reads : call_of before.shared.storage (argument_list before.task) ≡ Ok call
  pub outputs : List Output
  pub change : TaskChange
  pub judged : HasVerdict call before (Meets condition outputs change)
  pub reports :
      Reports (function_after reply call) (entry_of condition).number call before.task.eib before.shared.storage
      after.shared.storage
  -- without a PROGRAM or QUEUE, EIBRSRCE stays, unless an output lies over the EIB
  pub unnamed : named_by before.shared.storage call ≡ None
      → AreOutputsApart before.task.eib call (handed_over change before) outputs
      → field_at after.shared.storage before.task.eib Rsrce ≡ field_at before.shared.storage before.task.eib Rsrce

-- the condition that a command has met, by the reply: a level begins, and is returned to, with NORMAL
abbrev pub condition_of : TurnReply → Option Condition
condition_of (turn.Performed condition) = Some condition
condition_of (turn.TookLabel condition) = Some condition
condition_of turn.Entered = Some Normal
condition_of turn.Returned = Some Normal
condition_of _ = None

-- A command that is performed reports itself.
abbrev pub CommandsReport : Type 0
CommandsReport = (before after : TaskContext) (reply : TurnReply) (condition : Condition)
    → IsSoundContext before → IsRespApart before → HalfTurn before reply after → condition_of reply ≡ Some condition
    → HasReported reply condition before after

-- ---- an abend of a command
-- the report in the EIB is as it was
pub record LeavesReport (eib : ℕ) (before after : Storage) : Type 0 where
  pub fn : field_at after eib Fn ≡ field_at before eib Fn
  pub rcode : field_at after eib Rcode ≡ field_at before eib Rcode
  pub resp : field_at after eib Resp ≡ field_at before eib Resp
  pub rsrce : field_at after eib Rsrce ≡ field_at before eib Rsrce

-- the command has met some condition, which it reports
pub record HasReportedSome (code : List ℕ) (before after : TaskContext) : Type 0 where
  pub condition : Condition
  pub reports : HasReported (turn.TookExit code) condition before after

-- Where an exit takes the abend of a command, the command was refused, and the report is as it was; or has met a
-- condition, as ABEND meets NORMAL, and reports it.
abbrev pub ExitsFindReports : Type 0
ExitsFindReports = (before after : TaskContext) (code : List ℕ)
    → IsSoundContext before → IsRespApart before → before.task.due ≡ true
    → HalfTurn before (turn.TookExit code) after
    → LeavesReport before.task.eib before.shared.storage after.shared.storage ⊎ HasReportedSome code before after

-- ---- EIBCALEN
-- a level begins, or is the current one again
abbrev pub changes_level : TurnReply → Bool
changes_level turn.Entered = true
changes_level turn.Returned = true
changes_level (turn.TookExit code) = true
changes_level _ = false

-- EIBCALEN is the length of the COMMAREA of the level that is the current one then. Storage is sound afterwards, as
-- that of every store is.
abbrev pub CalenIsTheLevels : Type 0
CalenIsTheLevels = (before after : TaskContext) (reply : TurnReply)
    → IsSoundContext before → IsSoundStorage after.shared.storage → IsRespApart before
    → HalfTurn before reply after → changes_level reply ≡ true
    → field_at after.shared.storage after.task.eib Calen ≡ Some (to_be_bytes w16 after.task.levels.current.calen)
