-- What a command writes of the areas that other slots, and the region itself, own (Application Programmer's Reference
-- Manual, SC33-0077, "Argument Values"; the areas are this product's own): the bytes of its outputs, and RESP's word.
use Rattle.std.specs.Prelude.{◌≡◌, ℕ, Bool, true, false, ◌||◌, ◌⊎◌, nat_lt, List, length, Option, Some, None, is_some, Ok}
use Rattle.std.specs.List.{list_any}
use Rattle.cx_storage.specs.Address.{distance}
use Rattle.cx_storage.specs.Storage.{Storage, areas_of, byte_at, is_of_other_slot, with_areas_kept, IsSoundStorage}
use Rattle.cx_service.specs.Queues.{AreSoundQueues}
use Rattle.cx_region_state.specs.declared.outputs.Output.{Output}
use Rattle.cx_region_state.specs.Call.{Call, call_of, place_of, resp_place}
use Rattle.cx_region_state.specs.Outputs.{bytes_from}
use Rattle.cx_region_commands.specs.Common.{AreSoundPrograms}
use Rattle.cx_region_commands.specs.CommandVerdicts.{HasVerdict}
use Rattle.cx_region_state.specs.declared.replies.TurnReply.{TurnReply}
use Rattle.cx_region_state.specs.declared.verdict.Verdict.{Verdict}
use Rattle.cx_region_state.specs.declared.verdict.Verdict.TheVariants.{Meets}
use Rattle.cx_region_state.specs.State.{TaskContext}
use Rattle.cx_region_state.specs.Verdicts.{handed_over}
use Rattle.cx_region_task.specs.Performing.{argument_list}
use Rattle.cx_region_task.specs.Sound.{IsSoundTask}
use Rattle.cx_region_task.specs.Turn.{HalfTurn}

-- the areas that other slots, and the region itself, own, with their bytes
abbrev pub others_storage : ℕ → Storage → Storage
others_storage slot storage = with_areas_kept (is_of_other_slot slot) storage

-- an address is one of the n from a place on, where there is a place
abbrev pub is_among : ℕ → Option ℕ → ℕ → Bool
is_among x None n = false
is_among x (Some place) n = nat_lt (distance place x) n

-- an output of a call, with the text that the command hands over, has the address
abbrev pub is_in_output : ℕ → Call → List ℕ → Output → Bool
is_in_output x call text output = is_among x (place_of call output.option) (length (bytes_from text output.source))

-- A call that is judged so writes to the address: it meets a condition, and one of its outputs, or RESP's word, has it.
unfoldable pub writes_to : ℕ → Call → Verdict → TaskContext → Bool
writes_to x call (Meets condition outputs change) r =
    list_any (is_in_output x call (handed_over change r)) outputs || is_among x (resp_place call) 4
writes_to x call _ r = false

-- the command that is due writes to the address, as its row judges it
pub record DueWrites (x : ℕ) (before : TaskContext) : Type 0 where
  pub call : Call
  pub reads : call_of before.shared.storage (argument_list before.task) ≡ Ok call
  pub verdict : Verdict
  pub judged : HasVerdict call before verdict
  pub writes : writes_to x call verdict before ≡ true

-- What a command leaves of the areas of others: all of them; a byte at each address that has one, and at no other; and
-- this byte, unless the command writes to the address.
pub record LeavesOthers (before after : TaskContext) : Type 0 where
  pub areas : areas_of (others_storage before.terminal_entry.slot after.shared.storage)
      ≡ areas_of (others_storage before.terminal_entry.slot before.shared.storage)
  pub present : (x : ℕ)
      → is_some (byte_at (others_storage before.terminal_entry.slot after.shared.storage) x)
      ≡ is_some (byte_at (others_storage before.terminal_entry.slot before.shared.storage) x)
  pub bytes : (x : ℕ)
      → (byte_at (others_storage before.terminal_entry.slot after.shared.storage) x
      ≡ byte_at (others_storage before.terminal_entry.slot before.shared.storage) x) ⊎ DueWrites x before

abbrev pub CommandsLeaveOthers : Type 0
CommandsLeaveOthers =
    (before after : TaskContext) (reply : TurnReply) → IsSoundStorage before.shared.storage
    → AreSoundPrograms before.shared.programs → AreSoundQueues before.shared.queues
    → IsSoundTask before.shared.storage before.terminal_entry.slot before.task → before.task.due ≡ true
    → HalfTurn before reply after → LeavesOthers before after
