-- A run goes on by one event.
use Rattle.std.proofs.Common.{◌≡◌, ℕ, ◌+◌, ◌<◌, List, [], ◌∷◌, ◌++◌, length, take, get_or, refl, subst}
use Rattle.std.proofs.lemmas.List.{take_more}
use Rattle.cx_region.specs.declared.replies.Event.{Event}
use Rattle.cx_region.specs.declared.replies.Reply.{Reply}
use Rattle.cx_region.specs.State.{RegionState}
use Rattle.cx_region.specs.Events.{Applies, Run}

-- no event
pub run_none : (r : RegionState) (events : List Event) → Run r (take 0 events) [] r
unfolding Run
run_none r [] = refl
run_none r (e ∷ events) = refl

-- one more, the last
run_last : (old mid new : RegionState) (events : List Event) (event : Event) (replies : List Reply) (reply : Reply) → Run old events replies mid → Applies mid event reply new
    → Run old (events ++ event ∷ []) (replies ++ reply ∷ []) new
unfolding Run
run_last old mid new [] event [] reply run applies = (new, subst (λ (r : RegionState). Applies r event reply new) run applies, refl)
run_last old mid new [] event (r ∷ replies) reply run applies = absurd run
run_last old mid new (e ∷ events) event [] reply run applies = absurd run
run_last old mid new (e ∷ events) event (r ∷ replies) reply run applies = (run.0, run.1, run_last run.0 mid new events event replies reply run.2 applies)

pub run_more : (old mid new : RegionState) (events : List Event) (k : ℕ) (event : Event) (replies : List Reply) (reply : Reply) → k < length events → event ≡ get_or events k event
    → Run old (take k events) replies mid → Applies mid event reply new → Run old (take (k + 1) events) (replies ++ reply ∷ []) new
run_more old mid new events k event replies reply below is run applies =
    let last = run_last old mid new (take k events) event replies reply run applies in
    rw (take_more events k event below, ← is) last
