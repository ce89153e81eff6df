-- What always holds of the region under EDF is kept, and an event that was refused memory is none.
use Rattle.std.specs.Prelude.{ℕ, ⊤, List, ◌++◌, drop, Result, Err}
use Rattle.std.specs.declared.alloc.AllocError.{AllocError}
use Rattle.cx_region.specs.Events.{IsDone, RunStopped}
use Rattle.cx_region.specs.Sound.{IsSound}
use Rattle.cx_region_laws.specs.Laws.Memory.{IsAsWithout}
use Rattle.cx_region_laws.specs.Laws.Sound.{ArePartsSound, IsChecked}
use Rattle.cx_edf.specs.declared.answers.EdfEvent.{EdfEvent}
use Rattle.cx_edf.specs.declared.answers.EdfEvent.TheVariants as edf_event
use Rattle.cx_edf.specs.declared.answers.Answer.{Answer}
use Rattle.cx_edf.specs.State.{EdfState}
use Rattle.cx_edf.specs.Steps.{DisplayMaker, EdfApplies}
use Rattle.cx_edf.specs.Runs.{EdfRun, IsAllowedEdf, MayTakeEdf}

-- ---- soundness
-- the image of a program that is to be defined was checked
abbrev pub IsCheckedEdf : EdfEvent → Type 0
IsCheckedEdf (edf_event.Plain e) = IsChecked e
IsCheckedEdf _ = ⊤

-- an event under EDF leads from a sound region to a sound one
abbrev pub EdfSoundIsKept : Type 0
EdfSoundIsKept = (make : DisplayMaker) (old new : EdfState) (e : EdfEvent) (given : Answer) → IsSound old.region
    → IsAllowedEdf e → IsCheckedEdf e → EdfApplies make old e given new → ArePartsSound new.region → IsSound new.region

-- ---- memory
-- what comes after a refused event is done as if that had never come, with all modes and displays
abbrev pub RefusedEdfEventsAreNone : Type 0
RefusedEdfEventsAreNone = (make : DisplayMaker) (old mid new : EdfState) (refused next : EdfEvent) (fault : AllocError)
    (result : Result Answer AllocError)
    → IsDone (EdfApplies make) MayTakeEdf old refused (Err fault) mid
    → IsDone (EdfApplies make) MayTakeEdf mid next result new
    → IsAsWithout (EdfApplies make) MayTakeEdf old next result new

-- a list of events that ran out of memory, and then goes on with the events that weren't done, is the run of the whole
-- list
abbrev pub StoppedEdfRunsGoOn : Type 0
StoppedEdfRunsGoOn = (make : DisplayMaker) (old mid new : EdfState) (events : List EdfEvent) (done : ℕ)
    (others : List Answer) (stopped : RunStopped (EdfRun make) MayTakeEdf old events done mid)
    → EdfRun make mid (drop done events) others new → EdfRun make old events (stopped.replies ++ others) new
