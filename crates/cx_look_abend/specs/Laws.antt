-- Which turns keep an abend; what is kept is decided.
use Rattle.std.specs.Prelude.{◌≡◌, ◌≤◌, ◌+◌, ℕ, length, min, List, Option, Some}
use Rattle.cx_base.specs.declared.commands.Command.{Command}
use Rattle.cx_exec.specs.Machine.{Machine}
use Rattle.cx_storage.specs.Storage.{Storage}
use Rattle.cx_program.specs.declared.level.Level.{Level}
use Rattle.cx_asm_expressions.specs.declared.values.Value.{Value}
use Rattle.cx_region_state.specs.State.{TaskState}
use Rattle.cx_region_state.specs.declared.replies.TurnReply.{TurnReply}
use Rattle.cx_region_state.specs.declared.replies.TurnReply.TheVariants as turn
use Rattle.cx_region.specs.declared.replies.Event.TheVariants as event
use Rattle.cx_region.specs.declared.replies.Reply.TheVariants as reply
use Rattle.cx_region.specs.State.{RegionState}
use Rattle.cx_region.specs.Tables.{task_of}
use Rattle.cx_region.specs.Turn.{TurnHasAbendRecord}
use Rattle.cx_region_task.specs.Turn.{abend_record_with}
use Rattle.cx_region_task.specs.declared.cause.AbendRecord.{AbendRecord}
use Rattle.cx_region_task.specs.declared.cause.Cause.{Cause}
use Rattle.cx_edf.specs.State.{EdfState}
use Rattle.cx_edf.specs.Steps.{DisplayMaker}
use Rattle.cx_edf.specs.declared.answers.Answer.{Answer}
use Rattle.cx_edf.specs.declared.answers.Answer.TheVariants as answer
use Rattle.cx_edf.specs.declared.answers.EdfEvent.{EdfEvent}
use Rattle.cx_edf.specs.declared.answers.EdfEvent.TheVariants as edf_event
use Rattle.cx_look_fields.specs.FieldTexts.{field_line, typed}
use Rattle.cx_look_fields.specs.KeptFields.{kept_field, kept_line}
use Rattle.cx_look_fields.specs.declared.readings.NamedReading.{NamedReading}
use Rattle.cx_look_abend.specs.Noting.{KeptAbends, AppliesWithAbends, with_last}
use Rattle.cx_look_abend.specs.Abends.{before_turn, exit_place, explanation_of, kept_task}
use Rattle.cx_look_abend.specs.Dumps.{Dump, IsAtAbend, TurnHasDump, dump_in}
use Rattle.cx_look_abend.specs.declared.abends.LastAbend.{LastAbend}

-- The last abend of a terminal is that to which a turn of its task led: with this code, the task's transaction, number
-- and callers, the arguments of its command, the record and the DFHEISTG of this turn's abend, and where an exit that
-- took it went on.
pub record IsLast (before : KeptAbends) (old new : RegionState) (name code : List ℕ) (given : TurnReply)
    (after : KeptAbends) : Type 0 where
  pub last : LastAbend
  pub kept : after ≡ with_last before name last
  pub of_task : last.task ≡ kept_task old name
  pub with_code : last.code ≡ code
  pub abend_record : AbendRecord
  pub recorded : TurnHasAbendRecord old name (Some abend_record)
  pub dump : Option Dump
  pub dumped : TurnHasDump old name dump
  pub explained : last.explanation ≡ Some (explanation_of new (before_turn old name) dump abend_record)
  pub went_on : last.exit ≡ exit_place new name given

-- a turn that was answered as an abend, whether an exit took it or not, is kept; any other leaves what is kept
abbrev pub KeepsTurn : KeptAbends → RegionState → RegionState → List ℕ → TurnReply → KeptAbends → Type 0
KeepsTurn before old new name (turn.TookExit code) after = IsLast before old new name code (turn.TookExit code) after
KeepsTurn before old new name (turn.Abended code) after = IsLast before old new name code (turn.Abended code) after
KeepsTurn before old new name _ after = after ≡ before

-- the DFHEISTG that is kept of a turn's abend is of the machine at the abend, whose registers are kept
pub record IsOfRecord (s : Storage) (task : TaskState) (abend_record : AbendRecord) (dump : Dump) : Type 0 where
  pub command : Option Command
  pub why : Cause
  pub machine : Machine
  pub reached : IsAtAbend s task machine
  pub recorded : abend_record ≡ abend_record_with command machine why
  pub dumped : Some dump ≡ dump_in machine.storage task.levels.current

abbrev pub DumpsAreOfRecords : Type 0
DumpsAreOfRecords = (region : RegionState) (name : List ℕ) (task : TaskState) (abend_record : AbendRecord) (dump : Dump)
    → task_of region name ≡ Some task → TurnHasAbendRecord region name (Some abend_record)
    → TurnHasDump region name (Some dump)
    → IsOfRecord region.shared.storage task abend_record dump

-- and what is written of a field of it that is all there is what FIELD writes of it in that machine's storage
abbrev pub FieldsAreOfDumps : Type 0
FieldsAreOfDumps = (s : Storage) (level : Level) (dump : Dump) (term name : List ℕ) (readings : List NamedReading)
    → (value : Value) (offset : ℕ) → Some dump ≡ dump_in s level → offset + min 32 value.length ≤ length dump.bytes
    → kept_line term readings dump.at dump.bytes name value offset
    ≡ field_line s term name (typed readings name (kept_field dump.at offset value))

abbrev pub AbendsAreKept : Type 0
AbendsAreKept = (make : DisplayMaker) (old new : EdfState) (before after : KeptAbends) (name : List ℕ)
    (given : TurnReply)
    → AppliesWithAbends make old before (edf_event.Plain (event.Turn name)) (answer.Region (reply.Turn given)) new after
    → KeepsTurn before old.region new.region name given after

-- the state and what is kept before an event decide its answer, the state after it, and what is kept then
abbrev pub NotedDecide : Type 0
NotedDecide = (make : DisplayMaker) (old new later : EdfState) (before after others : KeptAbends) (e : EdfEvent)
    (given other : Answer)
    → AppliesWithAbends make old before e given new after → AppliesWithAbends make old before e other later others
    → (given ≡ other) × (new ≡ later) × (after ≡ others)
