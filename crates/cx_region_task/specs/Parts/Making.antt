-- Words for the steps of making, which no public contract cites.
use Rattle.std.specs.Prelude.{◌≡◌, ℕ, ◌+◌, ◌<◌, ◌≤◌, ◌^◌, true, ⊤, List, [], length, Option, Some, None, is_some, unwrap_or}
use Rattle.std.specs.Option.{option_map_or}
use Rattle.cx_storage.specs.Address.{address_after, distance}
use Rattle.cx_storage.specs.Storage.{Storage, span, starts_elsewhere, with_areas_kept}
use Rattle.cx_service.specs.Queues.{Queues, item_len_of, item_of}
use Rattle.cx_region_state.specs.Inputs.{piece_bytes}
use Rattle.cx_region_state.specs.declared.verdict.TaskChange.{TaskChange}
use Rattle.cx_region_state.specs.declared.verdict.TaskChange.TheVariants.{After, Gets}
use Rattle.cx_region_state.specs.declared.verdict.Copying.{Copying}
use Rattle.cx_region_state.specs.declared.verdict.AfterOutputs.{AfterOutputs}
use Rattle.cx_region_state.specs.declared.verdict.AfterOutputs.TheVariants.{Frees, MarksRead, TakesInput}
use Rattle.cx_region_state.specs.declared.verdict.Fill.{Fill}
use Rattle.cx_region_state.specs.declared.verdict.Fill.TheVariants.{Item}
use Rattle.cx_program.specs.declared.level.Level.{Level}
use Rattle.cx_program.specs.Levels.{Levels}
use Rattle.cx_region_state.specs.State.{Input, TaskState}
use Rattle.cx_region_task.specs.declared.continuation.Continuation.{Continuation}
use Rattle.cx_region_task.specs.declared.continuation.Continuation.TheVariants.{Enters, Replaces}
use Rattle.cx_region_state.specs.declared.verdict.Request.{Request}
use Rattle.cx_region_state.specs.declared.verdict.Request.TheVariants.{Push}

-- what PUSH HANDLE needs
abbrev pub MatchPush : Request → Type 0 → Type 0
MatchPush Push needed = needed
MatchPush _ needed = ⊤

-- an item that fills an area is as long as the area
abbrev pub MatchItem : Fill → Queues → ℕ → Type 0
MatchItem (Item name n) queues len = item_len_of queues name n ≡ Some len
MatchItem _ queues len = ⊤

-- storage without the area of a copy
abbrev pub without_copy : Option Copying → Storage → Storage
without_copy None storage = storage
without_copy (Some copying) storage = with_areas_kept (starts_elsewhere copying.to) storage

-- of len bytes from one address on, and as many from another on, none of the first is one of the second
abbrev pub AreBlocksApart : ℕ → ℕ → ℕ → Type 0
AreBlocksApart from to len = (k : ℕ) → k < len → len ≤ distance to (address_after from k)

-- the bytes of a copy are in storage, and so are those that they replace, which lie beside them
pub record IsCopyable (copying : Copying) (storage : Storage) : Type 0 where
  pub from : copying.from.place < 2 ^ 24
  pub below : copying.to + copying.from.len ≤ 2 ^ 24
  pub source : is_some (piece_bytes storage copying.from) ≡ true
  pub there : is_some (span storage copying.to copying.from.len) ≡ true
  pub apart : AreBlocksApart copying.from.place copying.to copying.from.len

abbrev pub MatchCopy : Option Copying → Storage → Type 0
MatchCopy None storage = ⊤
MatchCopy (Some copying) storage = IsCopyable copying storage

-- what an ended thing needs of the queues, and of the address of the area that is freed
abbrev pub MatchEnded : AfterOutputs → Queues → Type 0
MatchEnded (MarksRead name reading) queues = is_some (item_of queues name reading.number) ≡ true
MatchEnded (Frees place) queues = place < 2 ^ 24
MatchEnded _ queues = ⊤

abbrev pub MatchFill : Fill → Queues → Type 0
MatchFill (Item name n) queues = is_some (item_of queues name n) ≡ true
MatchFill _ queues = ⊤

abbrev pub MatchFinished : TaskChange → Queues → Type 0
MatchFinished (After it) queues = MatchEnded it queues
MatchFinished (Gets got) queues = MatchFill got.fill queues
MatchFinished _ queues = ⊤

-- the text that a command hands over, of the input and the queues alone
abbrev pub text_of : TaskChange → Option Input → Queues → List ℕ
text_of (After TakesInput) input queues = option_map_or (λ held. held.bytes) input []
text_of (After (MarksRead name reading)) input queues = unwrap_or (item_of queues name reading.number) []
text_of _ input queues = []

-- how many bytes it has, where its change can be made
abbrev pub text_length : TaskChange → Option Input → ℕ
text_length (After TakesInput) input = length (option_map_or (λ held. held.bytes) input [])
text_length (After (MarksRead name reading)) input = reading.len
text_length _ input = 0

-- what a way needs: a level that begins has its entry at an address, and LINK fewer than sixteen levels
abbrev pub MatchWay : Continuation → Levels → Type 0
MatchWay (Enters level) levels = (level.loaded.entry < 2 ^ 24) × (length levels.callers < 15)
MatchWay (Replaces level) levels = level.loaded.entry < 2 ^ 24
MatchWay _ levels = ⊤

-- the task with the registers and code that a level kept
abbrev pub with_kept : TaskState → Level → TaskState
with_kept task level = record task { regs = level.regs; cc = level.cc }
