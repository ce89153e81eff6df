-- Events of a region, and runs of them (this product's own).
use Rattle.std.specs.Prelude.{◌≡◌, ℕ, ◌<◌, ◌≤◌, ◌⊎◌, None, IsSomeAnd, List, [], ◌∷◌, length, take, slice_get, Result, IfOk, OnErr}
use Rattle.std.specs.declared.alloc.AllocError.{AllocError}
use Rattle.cx_region.specs.declared.replies.Event.{Event}
use Rattle.cx_region.specs.declared.replies.Event.TheVariants as event
use Rattle.cx_region.specs.declared.replies.Reply.{Reply}
use Rattle.cx_region.specs.declared.replies.Reply.TheVariants as reply
use Rattle.cx_load.specs.Program.{IsProgramPlace}
use Rattle.cx_region_task.specs.Turn.{TakesMemory}
use Rattle.cx_region.specs.State.{RegionState}
use Rattle.cx_region.specs.Tables.{terminal_of}
use Rattle.cx_region.specs.Defining.{DefinesProgram, DefinesTransaction, DefinesTerminal, program_fault, transaction_fault, terminal_fault}
use Rattle.cx_region.specs.Attach.{KeyTakesMemory, TakesKey, input_from}
use Rattle.cx_region.specs.Turn.{TakesTurn, context_of}
use Rattle.cx_region.specs.Alter.{Alters, IsAllowedChange}

-- one event: its reply and the region after it
unfoldable pub Applies : RegionState → Event → Reply → RegionState → Type 0
Applies old (event.Program name image) (reply.Program result) new = DefinesProgram old name image result new
Applies old (event.Transaction tran program) (reply.Transaction result) new =
    DefinesTransaction old tran program result new
Applies old (event.Terminal name) (reply.Terminal result) new = DefinesTerminal old name result new
Applies old (event.Clock time date) reply.Clock new = new ≡ record old { time = time; date = date }
Applies old (event.Key name aid bytes) (reply.Key answer) new = TakesKey old name (input_from aid bytes) answer new
Applies old (event.Turn name) (reply.Turn answer) new = TakesTurn old name answer new
Applies old (event.Alter name change) (reply.Alter answer) new = Alters old name change answer new
Applies old _ _ new = ⊥

-- events one after another, with their replies
unfoldable pub Run : RegionState → List Event → List Reply → RegionState → Type 0
Run old [] [] new = new ≡ old
Run old (event ∷ events) (reply ∷ replies) new =
    (between : RegionState) × Applies old event reply between × Run between events replies new
Run old _ _ new = ⊥

-- An event may take memory: a definition only where no refusal meets it, and a program only where storage has a place
-- for it; a turn where the terminal's task may take some; a clock and an alteration never.
unfoldable pub MayTakeMemory : RegionState → Event → Type 0
MayTakeMemory region (event.Program name image) =
    (program_fault region name ≡ None) × (IsProgramPlace region.shared.storage (length image.text) None → ⊥)
MayTakeMemory region (event.Transaction tran program) = transaction_fault region tran program ≡ None
MayTakeMemory region (event.Terminal name) = terminal_fault region name ≡ None
MayTakeMemory region (event.Key name aid bytes) = KeyTakesMemory region name (input_from aid bytes)
MayTakeMemory region (event.Turn name) =
    IsSomeAnd (terminal_of region name)
    (λ terminal. IsSomeAnd terminal.task (λ task. TakesMemory (context_of region terminal task)))
MayTakeMemory region _ = ⊥

-- What a door for events promises, by what an event does and where it may take memory: it is answered; or it was
-- refused memory that it may take, and all is as before.
pub record IsDone {S E R : Type 0} (does : S → E → R → S → Type 0) (may_take : S → E → Type 0)
    (old : S) (event : E) (result : Result R AllocError) (new : S) : Type 0 where
  pub applies : IfOk result (λ reply. does old event reply new)
  pub memory : OnErr result (may_take old event)
  pub err : OnErr result (new ≡ old)

-- A run that stopped after `done` events, and left the state as these did: in front of all of them, where there was no
-- room for their replies, or at an event that may take memory.
pub record RunStopped {S E R : Type 0} (runs : S → List E → List R → S → Type 0) (may_take : S → E → Type 0)
    (old : S) (events : List E) (done : ℕ) (new : S) : Type 0 where
  pub within : done < length events
  pub replies : List R
  pub run : runs old (take done events) replies new
  pub due : (done ≡ 0) ⊎ IsSomeAnd (slice_get events done) (may_take new)

-- what the calls take: a time and a date of six and five digits, at most 1,920 bytes of input, and a register of the
-- sixteen
abbrev pub IsAllowed : Event → Type 0
IsAllowed (event.Clock time date) = (time ≤ 999999) × (date ≤ 99999)
IsAllowed (event.Key name aid bytes) = length bytes ≤ 1920
IsAllowed (event.Alter name change) = IsAllowedChange change
IsAllowed _ = Unit {0}
