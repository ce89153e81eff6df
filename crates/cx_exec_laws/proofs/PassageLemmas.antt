-- There is one list of passages of a run, since its steps decide it.
use Rattle.std.proofs.Common.{◌≡◌, ℕ, zero, suc, List, ◌∷◌, sym, subst, ap, ◌∙◌}
use Rattle.std.specs.List.{fold}
use Rattle.cx_storage.specs.Storage.{Storage}
use Rattle.cx_exec.specs.Machine.{Machine}
use Rattle.cx_exec.specs.Step.{Steps}
use Rattle.cx_exec.specs.declared.machine.Step.{Step}
use Rattle.cx_exec.specs.declared.machine.Step.TheVariants.{Done, AtEntry, Interrupt}
use Rattle.cx_exec.specs.Passages.{FollowsPassage, Passage, Passages, passage}
use Rattle.cx_exec.specs.Tallies.{with_passage}
use Rattle.cx_exec.specs.Watches.{after_passage}
use Rattle.cx_exec_laws.specs.Laws.Decide.{StepsDecide}
use Rattle.cx_exec_laws.specs.Laws.Passages.{PassagesDecide, TalliesDecide, WatchesDecide}

follows_decide : (one : Passage) (step : Step) (GoesOn : List Passage → Type 0) (passages others : List Passage)
    → ((more some : List Passage) → GoesOn more → GoesOn some → more ≡ some) → FollowsPassage one step GoesOn passages
    → FollowsPassage one step GoesOn others → passages ≡ others
follows_decide one Done GoesOn passages others same p q = p.1 ∙ ap (λ more. one ∷ more) (same p.0 q.0 p.2 q.2) ∙ sym q.1
follows_decide one (Interrupt cause) GoesOn passages others same p q = p ∙ sym q
follows_decide one AtEntry GoesOn passages others same p q = p ∙ sym q

pub passages_decide : StepsDecide Steps → PassagesDecide
unfolding Passages
passages_decide decide zero m passages others p q = p ∙ sym q
passages_decide decide (suc n) m passages others (step, after, steps, follows) (end, left, ends, other) =
    let same = decide m step end after left steps ends in
    follows_decide (passage m end left) end (Passages n left) passages others (passages_decide decide n left)
    (subst (λ (s : Step). FollowsPassage (passage m s left) s (Passages n left) passages) same.0
    (subst (λ (x : Machine). FollowsPassage (passage m step x) step (Passages n x) passages) same.1 follows))
    other

pub tallies_decide : PassagesDecide → TalliesDecide
tallies_decide decide limit m old new other p q =
    let same = decide limit m p.passages q.passages p.are q.are in
    p.is ∙ ap (λ (passages : List Passage). fold with_passage old passages) same ∙ sym q.is

pub watches_decide : {V : Type 0} (noted : Storage → ℕ → V → V) → PassagesDecide → WatchesDecide noted
watches_decide noted decide limit m old new other p q =
    let same = decide limit m p.passages q.passages p.are q.are in
    p.is ∙ ap (λ (passages : List Passage). fold (after_passage noted) old passages) same ∙ sym q.is
