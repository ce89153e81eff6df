-- Runs that stop, of any kind: in front of the first event, and at one that may take memory.
use Rattle.std.proofs.Common.{◌≡◌, ℕ, Some, ap, sym, inl, inr, ◌<◌, List, [], length, take, get_or, refl, ◌∙◌, subst, arith}
use Rattle.std.specs.Prelude.{slice_get}
use Rattle.std.proofs.lemmas.Option.{slice_get-get_or}
use Rattle.cx_region.specs.Events.{RunStopped}

pub stopped_unbegun : {S E R : Type 0} (runs : S → List E → List R → S → Type 0) (may_take : S → E → Type 0) (s : S) (events : List E)
    → runs s (take 0 events) [] s → (length events ≡ 0 → ⊥) → RunStopped runs may_take s events 0 s
stopped_unbegun runs may_take s events none some = record { within = omega (arith, some); replies = []; run = none; due = inl refl }

pub stopped_at : {S E R : Type 0} (runs : S → List E → List R → S → Type 0) (may_take : S → E → Type 0) (old mid new : S) (events : List E) (k : ℕ) (event : E)
    (replies : List R) → k < length events → event ≡ get_or events k event → runs old (take k events) replies mid → new ≡ mid → may_take mid event
    → RunStopped runs may_take old events k new
stopped_at runs may_take old mid new events k event replies within is run same grows =
    let there : slice_get events k ≡ Some event = slice_get-get_or events k event within ∙ ap Some (sym is) in
    record {
      within = within;
      replies = replies;
      run = subst (λ s. runs old (take k events) replies s) (sym same) run;
      due = inr (rw there (subst (λ s. may_take s event) (sym same) grows));
    }
