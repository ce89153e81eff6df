-- What follows from the definitions of events and runs.
use Rattle.std.specs.Prelude.{Bool, true, ◌≡◌, ◌≢◌, ℕ, false, MatchOption, List, ◌++◌, length, take, drop, Result, Err}
use Rattle.std.specs.Map.{keys_of}
use Rattle.cx_code.specs.declared.image.Image.{Image}
use Rattle.cx_load.specs.declared.program.Loaded.{Loaded}
use Rattle.cx_region.specs.declared.replies.DefineFault.{DefineFault}
use Rattle.cx_region.specs.declared.replies.Event.{Event}
use Rattle.cx_region.specs.declared.replies.KeyReply.{KeyReply}
use Rattle.cx_region.specs.declared.replies.KeyReply.TheVariants as key
use Rattle.cx_region.specs.declared.replies.Reply.{Reply}
use Rattle.cx_region_state.specs.declared.replies.TurnReply.{TurnReply}
use Rattle.cx_region_state.specs.declared.replies.TurnReply.TheVariants as turn
use Rattle.cx_region.specs.State.{RegionState}
use Rattle.cx_region_state.specs.State.{Input}
use Rattle.cx_ebcdic.specs.Names.{is_name}
use Rattle.cx_region.specs.Tables.{terminal_of}
use Rattle.cx_region.specs.Sound.{IsSound}
use Rattle.cx_service.specs.Resources.{without_owner}
use Rattle.cx_region_task.specs.Laws.HalfTurns.{others_areas}
use Rattle.cx_region.specs.Defining.{DefinesProgram, DefinesTransaction, DefinesTerminal}
use Rattle.cx_region.specs.Attach.{TakesKey, next_number}
use Rattle.cx_region.specs.Turn.{TakesTurn}
use Rattle.cx_region.specs.Events.{Applies, Run}

-- ---- one outcome
-- two outcomes of one event on one region are equal
abbrev pub EventsDecide : Type 0
EventsDecide = (old : RegionState) (event : Event) (reply other : Reply) (new later : RegionState)
    → Applies old event reply new → Applies old event other later → (reply ≡ other) × (new ≡ later)

-- two outcomes of one definition of a program are equal
abbrev pub ProgramsDecide : Type 0
ProgramsDecide =
    (old : RegionState) (name : List ℕ) (image : Image) (answer other : Result Loaded DefineFault)
    (new later : RegionState)
    → DefinesProgram old name image answer new → DefinesProgram old name image other later
    → (answer ≡ other) × (new ≡ later)

-- two outcomes of one definition of a transaction are equal
abbrev pub TransactionsDecide : Type 0
TransactionsDecide =
    (old : RegionState) (tran program : List ℕ) (answer other : Result (Unit {0}) DefineFault) (new later : RegionState)
    → DefinesTransaction old tran program answer new → DefinesTransaction old tran program other later
    → (answer ≡ other) × (new ≡ later)

-- two outcomes of one definition of a terminal are equal
abbrev pub TerminalsDecide : Type 0
TerminalsDecide =
    (old : RegionState) (name : List ℕ) (answer other : Result (Unit {0}) DefineFault) (new later : RegionState)
    → DefinesTerminal old name answer new → DefinesTerminal old name other later → (answer ≡ other) × (new ≡ later)

-- two outcomes of one key are equal
abbrev pub KeysDecide : Type 0
KeysDecide = (old : RegionState) (name : List ℕ) (input : Input) (reply other : KeyReply) (new later : RegionState)
    → TakesKey old name input reply new → TakesKey old name input other later → (reply ≡ other) × (new ≡ later)

-- two outcomes of one turn are equal
abbrev pub TurnsDecide : Type 0
TurnsDecide = (old : RegionState) (name : List ℕ) (reply other : TurnReply) (new later : RegionState)
    → TakesTurn old name reply new → TakesTurn old name other later → (reply ≡ other) × (new ≡ later)

-- two outcomes of one run are equal
abbrev pub RegionRunsDecide : Type 0
RegionRunsDecide = (old : RegionState) (events : List Event) (replies others : List Reply) (new later : RegionState)
    → Run old events replies new → Run old events others later → (replies ≡ others) × (new ≡ later)

-- ---- what stays
-- Every other terminal is as before in all its parts: so are its task's registers, levels and due command.
abbrev pub OthersAsBefore : RegionState → List ℕ → RegionState → Type 0
OthersAsBefore old name new =
    (other : List ℕ) → is_name name other ≡ false → terminal_of new other ≡ terminal_of old other

-- what a turn of a terminal leaves, whatever its task does
pub record TurnKeeps (old : RegionState) (name : List ℕ) (new : RegionState) : Type 0 where
  pub others : OthersAsBefore old name new
  pub names : keys_of new.terminals ≡ keys_of old.terminals
  pub programs : new.shared.programs ≡ old.shared.programs
  pub transactions : new.transactions ≡ old.transactions
  pub time : new.time ≡ old.time
  pub date : new.date ≡ old.date
  pub counter : new.counter ≡ old.counter

-- what else a turn of a terminal of a sound region leaves: the areas and the resources of all others, both ways
pub record TurnKeepsOthers (old : RegionState) (name : List ℕ) (new : RegionState) : Type 0 where
  pub areas : MatchOption (terminal_of old name) (new.shared.storage ≡ old.shared.storage)
      (λ terminal.
      others_areas terminal.entry.slot new.shared.storage ≡ others_areas terminal.entry.slot old.shared.storage)
  pub resources : MatchOption (terminal_of old name) (new.shared.resources ≡ old.shared.resources)
      (λ terminal.
      without_owner new.shared.resources terminal.entry.slot ≡ without_owner old.shared.resources terminal.entry.slot)

-- the counter of tasks after a key that was answered so: the next number, where a task was attached
abbrev pub counter_after : KeyReply → ℕ → ℕ
counter_after key.Attached counter = next_number counter
counter_after _ counter = counter

-- what a key of a terminal leaves, by its answer
pub record KeyKeeps (old : RegionState) (name : List ℕ) (reply : KeyReply) (new : RegionState) : Type 0 where
  pub others : OthersAsBefore old name new
  pub names : keys_of new.terminals ≡ keys_of old.terminals
  pub programs : new.shared.programs ≡ old.shared.programs
  pub transactions : new.transactions ≡ old.transactions
  pub time : new.time ≡ old.time
  pub date : new.date ≡ old.date
  pub queues : new.shared.queues ≡ old.shared.queues
  pub resources : new.shared.resources ≡ old.shared.resources
  pub storage : reply ≢ key.Attached → new.shared.storage ≡ old.shared.storage
  pub counter : new.counter ≡ counter_after reply old.counter

-- a turn changes no terminal but its own, no definition, nor the clock or the counter
abbrev pub TurnsKeepToTheirTask : Type 0
TurnsKeepToTheirTask =
    (old : RegionState) (name : List ℕ) (reply : TurnReply) (new : RegionState) → TakesTurn old name reply new
    → TurnKeeps old name new

-- in a sound region a turn leaves the areas and the resources of all others
abbrev pub TurnsKeepOthers : Type 0
TurnsKeepOthers =
    (old : RegionState) (name : List ℕ) (reply : TurnReply) (new : RegionState) → IsSound old
    → TakesTurn old name reply new → TurnKeepsOthers old name new

abbrev pub KeysKeepToTheirTerminal : Type 0
KeysKeepToTheirTerminal =
    (old : RegionState) (name : List ℕ) (input : Input) (reply : KeyReply) (new : RegionState)
    → TakesKey old name input reply new → KeyKeeps old name reply new

-- ---- what changes nothing
-- the answers of a turn that leaves the region as it was
abbrev pub changes_nothing : TurnReply → Bool
changes_nothing turn.Idle = true
changes_nothing turn.NoSuchTerminal = true
changes_nothing turn.Waiting = true
changes_nothing _ = false

abbrev pub StillTurnsLeaveTheRegion : Type 0
StillTurnsLeaveTheRegion =
    (old : RegionState) (name : List ℕ) (reply : TurnReply) (new : RegionState) → TakesTurn old name reply new
    → changes_nothing reply ≡ true → new ≡ old

-- every answer of a key but Attached and Given
abbrev pub StillKeysLeaveTheRegion : Type 0
StillKeysLeaveTheRegion =
    (old : RegionState) (name : List ℕ) (input : Input) (reply : KeyReply) (new : RegionState)
    → TakesKey old name input reply new
    → reply ≢ key.Attached → reply ≢ key.Given → new ≡ old

-- a definition of a program that is refused leaves the region
abbrev pub RefusedProgramsLeaveTheRegion : Type 0
RefusedProgramsLeaveTheRegion =
    (old : RegionState) (name : List ℕ) (image : Image) (fault : DefineFault) (new : RegionState)
    → DefinesProgram old name image (Err fault) new → new ≡ old

-- a definition of a transaction that is refused leaves it too
abbrev pub RefusedTransactionsLeaveTheRegion : Type 0
RefusedTransactionsLeaveTheRegion =
    (old : RegionState) (tran program : List ℕ) (fault : DefineFault) (new : RegionState)
    → DefinesTransaction old tran program (Err fault) new → new ≡ old

-- a definition of a terminal that is refused leaves it too
abbrev pub RefusedTerminalsLeaveTheRegion : Type 0
RefusedTerminalsLeaveTheRegion = (old : RegionState) (name : List ℕ) (fault : DefineFault) (new : RegionState)
    → DefinesTerminal old name (Err fault) new → new ≡ old

-- ---- runs
-- a run, and a run from where it ends, are one run of all their events
abbrev pub RegionRunsJoin : Type 0
RegionRunsJoin = (old between new : RegionState) (events more : List Event) (replies others : List Reply)
    → Run old events replies between → Run between more others new → Run old (events ++ more) (replies ++ others) new

-- a run of events and more is a run of the events with as many replies, and one of the others from where it ends
abbrev pub RunsPart : Type 0
RunsPart =
    (old new : RegionState) (events more : List Event) (replies : List Reply) → Run old (events ++ more) replies new
    → (between : RegionState) × Run old events (take (length events) replies) between
    × Run between more (drop (length events) replies) new

-- replies and events are as many
abbrev pub AreAsMany : Type 0
AreAsMany =
    (old new : RegionState) (events : List Event) (replies : List Reply) → Run old events replies new
    → length replies ≡ length events
