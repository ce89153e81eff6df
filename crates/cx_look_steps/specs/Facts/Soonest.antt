-- Two lists of moves of which neither is later.
use Rattle.std.proofs.Common.{◌≡◌, ℕ, List, inl, inr, sym}
use Rattle.cx_search.specs.Laws.{SoonerOrders}
use Rattle.cx_look_steps.specs.Steps.{NoLater}

pub both_soonest : SoonerOrders → (ms ns : List ℕ) → NoLater ms ns → NoLater ns ms → ms ≡ ns
both_soonest sooner ms ns (inl e) later = e
both_soonest sooner ms ns (inr l) (inl e) = sym e
both_soonest sooner ms ns (inr l) (inr m) = absurd (sooner.not_self ms (sooner.onward ms ns ms l m))
