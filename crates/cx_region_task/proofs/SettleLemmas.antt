-- What a change ends can still be ended when all else is written.
use Rattle.std.proofs.Common.{◌≡◌, ℕ, List, refl, sym, subst}
use Rattle.cx_region_state.specs.declared.report.CommandReport.{CommandReport}
use Rattle.cx_region_state.specs.declared.outputs.Output.{Output}
use Rattle.cx_region_state.specs.Call.{Call}
use Rattle.cx_service.specs.Queues.{Queues}
use Rattle.cx_service.specs.Facts.Readings.{item_there}
use Rattle.cx_region_state.specs.declared.verdict.TaskChange.{TaskChange}
use Rattle.cx_region_state.specs.declared.verdict.TaskChange.TheVariants.{Nothing, Before, After, Gets, Enters, Replaces, LevelEnds, TaskEnds, AbendsWith}
use Rattle.cx_region_state.specs.declared.verdict.AfterOutputs.{AfterOutputs}
use Rattle.cx_region_state.specs.declared.verdict.AfterOutputs.TheVariants.{TakesInput, MarksRead, QueueGone, Dequeues, Frees}
use Rattle.cx_region_state.specs.declared.verdict.Fill.{Fill}
use Rattle.cx_region_state.specs.declared.verdict.Fill.TheVariants.{Byte, Item}
use Rattle.cx_region_state.specs.State.{TaskContext}
use Rattle.cx_region_state.specs.Parts.Fits.{FitsChange, FitsEnded, FitsFill}
use Rattle.cx_region_task.specs.Changes.{AppliesBefore, write_outputs, write_report}
use Rattle.cx_region_task.specs.Parts.Making.{MatchEnded, MatchFill, MatchFinished}

ended_can : (it : AfterOutputs) (r : TaskContext) → FitsEnded it r → MatchEnded it r.shared.queues
ended_can TakesInput r fits = tt
ended_can (MarksRead name reading) r fits = item_there r.shared.queues name reading.number reading.len fits
ended_can (QueueGone name) r fits = tt
ended_can (Dequeues resource) r fits = tt
ended_can (Frees place) r fits = fits.below

fill_can : (fill : Fill) (len : ℕ) (r : TaskContext) → FitsFill fill len r → MatchFill fill r.shared.queues
fill_can (Byte b) len r fits = tt
fill_can (Item name n) len r fits = item_there r.shared.queues name n len fits

same_queues : (call : Call) (outputs : List Output) (change : TaskChange) (answer : CommandReport) (made given_r after : TaskContext)
    → given_r ≡ write_outputs call outputs change made → after ≡ write_report call answer given_r → after.shared.queues ≡ made.shared.queues
unfolding write_outputs write_report
same_queues call outputs change answer made given_r after gives reports = rw (reports, gives) refl

applied_can : (change : TaskChange) (before made : TaskContext) → FitsChange change before → AppliesBefore change before made → MatchFinished change made.shared.queues
unfolding AppliesBefore
applied_can Nothing before made fits applied = tt
applied_can (Before it) before made fits applied = tt
applied_can (After it) before made fits applied = rw applied (ended_can it before fits)
applied_can (Gets got) before made fits applied = rw applied (fill_can got.fill got.len before fits.fill)
applied_can (Enters level) before made fits applied = tt
applied_can (Replaces copying level) before made fits applied = tt
applied_can LevelEnds before made fits applied = tt
applied_can (TaskEnds next) before made fits applied = tt
applied_can (AbendsWith code cancel) before made fits applied = tt

pub fits_finished : (call : Call) (outputs : List Output) (change : TaskChange) (answer : CommandReport) (before made given_r after : TaskContext)
    → FitsChange change before → AppliesBefore change before made → given_r ≡ write_outputs call outputs change made → after ≡ write_report call answer given_r
    → MatchFinished change after.shared.queues
fits_finished call outputs change answer before made given_r after fits applied gives reports =
    subst (λ (queues : Queues). MatchFinished change queues) (sym (same_queues call outputs change answer made given_r after gives reports)) (applied_can change before made fits applied)
