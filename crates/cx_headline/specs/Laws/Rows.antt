-- Every half-turn is its row.
use Rattle.std.specs.Prelude.{◌≡◌, ℕ, ◌+◌, true, false, List, slice_get, Some, IsSomeAnd, MatchOption}
use Rattle.cx_ebcdic.specs.declared.aids.Aid.{Aid}
use Rattle.cx_region.specs.declared.changes.AlterReply.TheVariants as alter
use Rattle.cx_region.specs.declared.changes.Change.TheVariants as change
use Rattle.cx_region.specs.declared.replies.Event.{Event}
use Rattle.cx_region.specs.declared.replies.Event.TheVariants as event
use Rattle.cx_region.specs.declared.replies.Reply.{Reply}
use Rattle.cx_region.specs.declared.replies.Reply.TheVariants as replied
use Rattle.cx_region_state.specs.declared.replies.TurnReply.{TurnReply}
use Rattle.cx_region_state.specs.State.{TaskContext, TaskState}
use Rattle.cx_region_task.specs.Turn.{HalfTurn}
use Rattle.cx_region.specs.State.{RegionState, TerminalState}
use Rattle.cx_region.specs.Tables.{terminal_of}
use Rattle.cx_region.specs.Turn.{put_back, context_of, task_after}
use Rattle.cx_region.specs.Alter.{Alters}
use Rattle.cx_region.specs.Events.{Applies}
use Rattle.cx_edf.specs.declared.answers.Answer.{Answer}
use Rattle.cx_edf.specs.declared.answers.Answer.TheVariants as answer
use Rattle.cx_edf.specs.declared.answers.EdfEvent.{EdfEvent}
use Rattle.cx_edf.specs.declared.answers.EdfEvent.TheVariants as edf_event
use Rattle.cx_edf.specs.State.{EdfState, ends_by_key}
use Rattle.cx_edf.specs.Erasure.{is_own}
use Rattle.cx_edf.specs.Laws.Edf.{event_ends_task}
use Rattle.cx_headline.specs.Laws.Runs.{state_after_first}

-- The region is the one before with what a half-turn of the terminal's task reached put back; the answer is its reply;
-- and it is the only half-turn that there is.
pub record IsHalfTurn (old : RegionState) (name : List ℕ) (terminal : TerminalState) (task : TaskState) (given : Answer)
    (new : RegionState) : Type 0 where
  pub reply : TurnReply
  pub reached : TaskContext
  pub half_turn : HalfTurn (context_of old terminal task) reply reached
  pub after : new ≡ put_back old name reached (task_after reply reached.task)
  pub answers : given ≡ answer.Region (replied.Turn reply)
  pub only : (other : TurnReply) (elsewhere : TaskContext) → HalfTurn (context_of old terminal task) other elsewhere
      → (other ≡ reply) × (elsewhere ≡ reached)

-- a turn of a terminal: without a live task the region stays, else it is a half-turn of the task
abbrev pub IsTurn : RegionState → List ℕ → Answer → RegionState → Type 0
IsTurn old name given new =
    MatchOption (terminal_of old name) (new ≡ old) (λ terminal.
    MatchOption terminal.task (new ≡ old) (λ task. IsHalfTurn old name terminal task given new))

-- an event of the region: its reply is the answer, and the region after it is as its row says
pub record IsRow (old : RegionState) (event : Event) (given : Answer) (new : RegionState) : Type 0 where
  pub reply : Reply
  pub applies : Applies old event reply new
  pub answers : given ≡ answer.Region reply

-- What an event did to the region. EDF's own leaves it, except that a PF12 that ends a task is the alteration that does
-- so. A turn that isn't EDF's is a half-turn; a key, a definition, the clock and an alteration are their rows.
pub record IsItsRow (before : EdfState) (e : EdfEvent) (given : Answer) (after : EdfState) : Type 0 where
  pub own : is_own before e ≡ true → event_ends_task before e ≡ false → after.region ≡ before.region
  pub ended : (name : List ℕ) (aid : Aid) (bytes : List ℕ) → e ≡ edf_event.Plain (event.Key name aid bytes)
      → ends_by_key before name aid ≡ true → Alters before.region name change.Abend alter.Altered after.region
  pub turn : (name : List ℕ) → e ≡ edf_event.Plain (event.Turn name) → is_own before e ≡ false
      → IsTurn before.region name given after.region
  pub other : (plain : Event) → e ≡ edf_event.Plain plain → is_own before e ≡ false
      → IsRow before.region plain given after.region

-- each event of a run changes the region as its row says, by the state before it, its answer, and the state after it
abbrev pub EachIsItsRow : EdfState → List EdfEvent → List Answer → List EdfState → Type 0
EachIsItsRow old events answers states = (n : ℕ) (e : EdfEvent) → slice_get events n ≡ Some e
    → IsSomeAnd (slice_get answers n)
    (λ given. IsItsRow (state_after_first old states n) e given (state_after_first old states (n + 1)))
