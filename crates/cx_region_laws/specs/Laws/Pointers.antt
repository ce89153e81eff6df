-- Where a program goes on after its command, and what it finds there of the command's outputs, pointers among them
-- (Application Programmer's Reference Manual, SC33-0077, "Exceptional conditions", "Argument Values").
use Rattle.std.specs.Prelude.{◌≡◌, ℕ, ◌<◌, Bool, true, false, ◌||◌, List, ◌∷◌, ◌++◌, slice_get, slice_index, Some, Ok}
use Rattle.std.specs.List.{list_any}
use Rattle.cx_base.specs.declared.conditions.Condition.{Condition}
use Rattle.cx_base.specs.declared.options.OptionName.{OptionName}
use Rattle.cx_base.specs.Eib.{eib_len}
use Rattle.cx_storage.specs.Address.{address_in, address_after}
use Rattle.cx_storage.specs.Storage.{Storage, byte_at, IsSoundStorage}
use Rattle.cx_storage.specs.Word.{word_at}
use Rattle.cx_region_state.specs.declared.outputs.Output.{Output}
use Rattle.cx_region_state.specs.declared.outputs.OutputValue.TheVariants.{Word}
use Rattle.cx_region_state.specs.Call.{Call, call_of, place_of, resp_place}
use Rattle.cx_region_state.specs.Outputs.{bytes_from}
use Rattle.cx_region_commands.specs.Common.{output as output_of}
use Rattle.cx_region_commands.specs.CommandVerdicts.{HasVerdict}
use Rattle.cx_region_state.specs.declared.replies.TurnReply.TheVariants as turn
use Rattle.cx_region_state.specs.declared.verdict.TaskChange.{TaskChange}
use Rattle.cx_region_state.specs.declared.verdict.Verdict.TheVariants.{Meets}
use Rattle.cx_region_state.specs.State.{TaskContext, TaskState}
use Rattle.cx_region_state.specs.Verdicts.{handed_over}
use Rattle.cx_region_task.specs.Performing.{argument_list}
use Rattle.cx_region_task.specs.Sound.{IsSoundTask}
use Rattle.cx_region_task.specs.Turn.{HalfTurn}
use Rattle.cx_region_laws.specs.Laws.Bytes.{is_among, is_in_output}

-- A command was due, and none is now: its program goes on at the address in R14, with the registers and the code that
-- it had.
pub record GoesOnAfter (before after : TaskState) : Type 0 where
  pub was_due : before.due ≡ true
  pub next : after.next ≡ address_in (slice_index before.regs 14)
  pub regs : after.regs ≡ before.regs
  pub cc : after.cc ≡ before.cc
  pub due : after.due ≡ false

-- a program that goes on after its command does so at the address in R14, with its registers and its code
abbrev pub ProgramsGoOn : Type 0
ProgramsGoOn =
    (before after : TaskContext) (condition : Condition) → HalfTurn before (turn.Performed condition) after
    → GoesOnAfter before.task after.task

-- An address may be written again after an output: one of the outputs after it has the address, the EIB, or RESP's
-- word.
abbrev pub is_written_again : ℕ → ℕ → Call → List ℕ → List Output → Bool
is_written_again x eib call text later =
    list_any (is_in_output x call text) later || is_among x (Some eib) eib_len || is_among x (resp_place call) 4

-- Each byte of the outputs, with the text that the command hands over, is at its place, unless its address is written
-- again.
abbrev pub OutputsStand : Storage → ℕ → Call → List ℕ → List Output → Type 0
OutputsStand storage eib call text outputs =
    (front later : List Output) (output : Output) (place k byte : ℕ) → outputs ≡ front ++ output ∷ later
    → place_of call output.option ≡ Some place
    → slice_get (bytes_from text output.source) k ≡ Some byte
    → is_written_again (address_after place k) eib call text later ≡ false
    → byte_at storage (address_after place k) ≡ Some byte

-- So the pointer that an option gets is the word at its place, where none of its addresses is written again.
abbrev pub PointersStand : Storage → ℕ → Call → List ℕ → List Output → Type 0
PointersStand storage eib call text outputs =
    (front later : List Output) (option : OptionName) (place pointer : ℕ)
    → outputs ≡ front ++ output_of option (Word pointer) ∷ later → place_of call option ≡ Some place
    → ((k : ℕ) → k < 4 → is_written_again (address_after place k) eib call text later ≡ false)
    → word_at storage place ≡ Some pointer

-- The command that was due has met the condition, with these outputs, as its row judges it; and its outputs are at
-- their places.
pub record HasPutOut (condition : Condition) (before after : TaskContext) : Type 0 where
  pub call : Call
  pub reads : call_of before.shared.storage (argument_list before.task) ≡ Ok call
  pub outputs : List Output
  pub change : TaskChange
  pub judged : HasVerdict call before (Meets condition outputs change)
  pub bytes : OutputsStand after.shared.storage before.task.eib call (handed_over change before) outputs
  pub pointers : PointersStand after.shared.storage before.task.eib call (handed_over change before) outputs

-- each byte of the command's outputs is at its place then, unless its address is written again
abbrev pub OutputsStay : Type 0
OutputsStay =
    (before after : TaskContext) (condition : Condition) → IsSoundStorage before.shared.storage
    → IsSoundTask before.shared.storage before.terminal_entry.slot before.task
    → HalfTurn before (turn.Performed condition) after → HasPutOut condition before after
