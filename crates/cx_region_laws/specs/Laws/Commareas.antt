-- What an entered program finds of the COMMAREA that is passed to it (Application Programmer's Reference Manual,
-- SC33-0077, "Program Control"; that a COMMAREA of length 0 is none is this product's own).
use Rattle.std.specs.Prelude.{◌≡◌, ℕ, ◌<◌, false, List, [], length, Option, Some, Ok, ⊤}
use Rattle.std.specs.Option.{option_map_or}
use Rattle.std.specs.Int.{w16, to_be_bytes}
use Rattle.cx_base.specs.declared.commands.Command.{Command}
use Rattle.cx_base.specs.declared.commands.Command.TheVariants.{Link}
use Rattle.cx_base.specs.declared.eib.EibField.TheVariants.{Calen}
use Rattle.cx_base.specs.declared.eistg.EistgField.TheVariants.{Eicap}
use Rattle.cx_base.specs.declared.options.OptionName.TheVariants.{Commarea}
use Rattle.cx_base.specs.Eib.{eib_len}
use Rattle.cx_base.specs.Eistg.{eistg_field}
use Rattle.cx_storage.specs.Address.{address_after}
use Rattle.cx_storage.specs.Storage.{Storage, span}
use Rattle.cx_storage.specs.Word.{word_at}
use Rattle.cx_region_state.specs.Call.{Call, call_of, place_of, resp_place}
use Rattle.cx_region_state.specs.Inputs.{length_option}
use Rattle.cx_region_state.specs.declared.replies.TurnReply.TheVariants as turn
use Rattle.cx_region_state.specs.State.{Input, TaskContext, TaskState}
use Rattle.cx_region_task.specs.Performing.{argument_list}
use Rattle.cx_region_task.specs.Turn.{HalfTurn}
use Rattle.cx_region.specs.declared.replies.KeyReply.TheVariants as key
use Rattle.cx_region.specs.Attach.{TakesKey, commarea_kept}
use Rattle.cx_region.specs.Sound.{IsSound}
use Rattle.cx_region.specs.State.{RegionState, TerminalState}
use Rattle.cx_region.specs.Tables.{task_of, terminal_of}
use Rattle.cx_region_laws.specs.Laws.Bytes.{is_among}
use Rattle.cx_region_laws.specs.Laws.Reports.{IsRespApart, IsSoundContext, field_at}

-- A task's program finds these bytes: EIBCALEN says how many, and the word in DFHEICAP is their address; without bytes
-- it is 0.
pub record FindsCommarea (storage : Storage) (task : TaskState) (bytes : List ℕ) : Type 0 where
  pub calen : field_at storage task.eib Calen ≡ Some (to_be_bytes w16 (length bytes))
  pub place : ℕ
  pub cap : word_at storage (address_after task.levels.current.stg (eistg_field Eicap).offset) ≡ Some place
  pub there : span storage place (length bytes) ≡ Some bytes
  pub none : bytes ≡ [] → place ≡ 0

-- ---- LINK and XCTL
-- the bytes that a call passes: those that LENGTH measures at COMMAREA, where they are in storage; none without it
abbrev pub passed_by : Storage → Call → Option (List ℕ)
passed_by storage call =
    option_map_or (λ place. span storage place (length_option storage call)) (place_of call Commarea) (Some [])

-- A program that is linked to finds the caller's own area: there neither the EIB nor RESP's word lies over it.
abbrev pub IsCommareaApart : Command → ℕ → Call → Storage → Type 0
IsCommareaApart Link eib call storage =
    (place k : ℕ) → place_of call Commarea ≡ Some place → k < length_option storage call
    → (is_among (address_after place k) (Some eib) eib_len ≡ false)
    × (is_among (address_after place k) (resp_place call) 4 ≡ false)
IsCommareaApart _ eib call storage = ⊤

-- a program that is entered by LINK or XCTL finds the COMMAREA as the command found it
abbrev pub EnteredFindCommareas : Type 0
EnteredFindCommareas = (before after : TaskContext) (call : Call) (bytes : List ℕ)
    → IsSoundContext before → IsRespApart before → call_of before.shared.storage (argument_list before.task) ≡ Ok call
    → passed_by before.shared.storage call ≡ Some bytes
    → IsCommareaApart call.command before.task.eib call before.shared.storage
    → HalfTurn before turn.Entered after → FindsCommarea after.shared.storage after.task bytes

-- ---- a key that attaches a task
-- a program that is started finds the bytes that the terminal's last task kept for it
abbrev pub AttachedFindCommareas : Type 0
AttachedFindCommareas =
    (old new : RegionState) (name : List ℕ) (input : Input) (terminal : TerminalState) (task : TaskState)
    → IsSound old → TakesKey old name input key.Attached new
    → terminal_of old name ≡ Some terminal → task_of new name ≡ Some task
    → FindsCommarea new.shared.storage task (commarea_kept terminal.entry.following)

-- EIBCALEN is the length of the COMMAREA of its level
abbrev pub AttachedCalenIsTheLevels : Type 0
AttachedCalenIsTheLevels =
    (old new : RegionState) (name : List ℕ) (input : Input) (terminal : TerminalState) (task : TaskState)
    → IsSound old → TakesKey old name input key.Attached new
    → terminal_of old name ≡ Some terminal → task_of new name ≡ Some task
    → field_at new.shared.storage task.eib Calen ≡ Some (to_be_bytes w16 task.levels.current.calen)
