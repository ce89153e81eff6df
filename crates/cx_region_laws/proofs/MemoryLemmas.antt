-- What comes after an event that was refused memory.
use Rattle.std.proofs.Common.{◌≡◌, List, ◌++◌, subst}
use Rattle.std.specs.Prelude.{Result, Ok, Err, IfOk, drop, take}
use Rattle.std.proofs.lemmas.List.{take-append-drop}
use Rattle.std.specs.declared.alloc.AllocError.{AllocError}
use Rattle.cx_region.specs.declared.replies.Event.{Event}
use Rattle.cx_region.specs.declared.replies.Reply.{Reply}
use Rattle.cx_region.specs.State.{RegionState}
use Rattle.cx_region.specs.Events.{Applies, IsDone, MayTakeMemory, Run}
use Rattle.cx_region_laws.specs.Laws.Memory.{RefusedEventsAreNone, StoppedRunsGoOn}
use Rattle.cx_region_laws.specs.Laws.Regions.{EventsDecide}
use Rattle.cx_region_laws.proofs.RunLawLemmas.{runs_join}

same_answer : EventsDecide → (old new after : RegionState) (e : Event) (result : Result Reply AllocError) (reply : Reply) → IfOk result (λ given. Applies old e given new)
    → Applies old e reply after → IfOk result (λ given. (given ≡ reply) × (new ≡ after))
same_answer decide old new after e (Ok given) reply h k = decide old e given reply new after h k
same_answer decide old new after e (Err fault) reply h k = tt

pub refused_events_are_none : EventsDecide → RefusedEventsAreNone
refused_events_are_none decide old mid new refused next fault result first second =
    let done : IsDone Applies MayTakeMemory old next result new = subst (λ (r : RegionState). IsDone Applies MayTakeMemory r next result new) first.err second in
    record { done = done; answer = λ reply after h. same_answer decide old new after next result reply done.applies h }

pub stopped_runs_go_on : StoppedRunsGoOn
stopped_runs_go_on old mid new events done others stopped rest =
    subst (λ (es : List Event). Run old es (stopped.replies ++ others) new) (take-append-drop done events)
    (runs_join old mid new (take done events) (drop done events) stopped.replies others stopped.run rest)
