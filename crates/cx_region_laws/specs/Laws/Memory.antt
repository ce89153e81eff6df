-- An event that was refused memory is none.
use Rattle.std.specs.Prelude.{◌≡◌, ℕ, List, ◌++◌, drop, Result, Err, IfOk}
use Rattle.std.specs.declared.alloc.AllocError.{AllocError}
use Rattle.cx_region.specs.declared.replies.Event.{Event}
use Rattle.cx_region.specs.declared.replies.Reply.{Reply}
use Rattle.cx_region.specs.State.{RegionState}
use Rattle.cx_region.specs.Events.{Applies, IsDone, MayTakeMemory, Run, RunStopped}

-- What comes after a refused event is done as if that had never come; so its answer and the region after it are those
-- that it would have had.
pub record IsAsWithout {S E R : Type 0} (does : S → E → R → S → Type 0) (may_take : S → E → Type 0)
    (old : S) (next : E) (result : Result R AllocError) (new : S) : Type 0 where
  pub done : IsDone does may_take old next result new
  pub answer : (reply : R) (after : S) → does old next reply after
      → IfOk result (λ given. (given ≡ reply) × (new ≡ after))

-- what comes after an event that was refused memory is done as if that had never come
abbrev pub RefusedEventsAreNone : Type 0
RefusedEventsAreNone = (old mid new : RegionState) (refused next : Event) (fault : AllocError)
    (result : Result Reply AllocError)
    → IsDone Applies MayTakeMemory old refused (Err fault) mid → IsDone Applies MayTakeMemory mid next result new
    → IsAsWithout Applies MayTakeMemory old next result new

-- a list of events that ran out of memory, and then goes on with the events that weren't done, is the run of the whole
-- list
abbrev pub StoppedRunsGoOn : Type 0
StoppedRunsGoOn = (old mid new : RegionState) (events : List Event) (done : ℕ) (others : List Reply)
    (stopped : RunStopped Run MayTakeMemory old events done mid)
    → Run mid (drop done events) others new → Run old events (stopped.replies ++ others) new
