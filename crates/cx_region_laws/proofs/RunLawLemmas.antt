-- Runs of events, one after another.
use Rattle.std.proofs.Common.{suc, [], ◌∷◌, refl, ap, subst}
use Rattle.cx_region.specs.State.{RegionState}
use Rattle.cx_region.specs.Events.{Run}
use Rattle.cx_region_laws.specs.Laws.Regions.{AreAsMany, RegionRunsJoin, RunsPart}

pub runs_join : RegionRunsJoin
unfolding Run
runs_join old between new [] more [] others first second = subst (λ (r : RegionState). Run r more others new) first second
runs_join old between new [] more (r ∷ rs) others first second = absurd first
runs_join old between new (e ∷ es) more [] others first second = absurd first
runs_join old between new (e ∷ es) more (r ∷ rs) others first second =
    (first.0, first.1, runs_join first.0 between new es more rs others first.2 second)

pub runs_part : RunsPart
unfolding Run
runs_part old new [] more replies run = (old, refl, run)
runs_part old new (e ∷ es) more [] run = absurd run
runs_part old new (e ∷ es) more (r ∷ rs) run =
    let rest = runs_part run.0 new es more rs run.2 in
    (rest.0, (run.0, run.1, rest.1), rest.2)

pub are_as_many : AreAsMany
unfolding Run
are_as_many old new [] [] run = refl
are_as_many old new [] (r ∷ rs) run = absurd run
are_as_many old new (e ∷ es) [] run = absurd run
are_as_many old new (e ∷ es) (r ∷ rs) run = ap suc (are_as_many run.0 new es rs run.2)
