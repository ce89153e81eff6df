-- The passages of a run are at the instructions that it comes to.
use Rattle.std.proofs.Common.{◌≡◌, zero, suc, List, ◌∷◌, map, sym, subst, ap, ◌∙◌}
use Rattle.cx_exec.specs.Machine.{Machine}
use Rattle.cx_exec.specs.Step.{Steps}
use Rattle.cx_exec.specs.declared.machine.Step.{Step}
use Rattle.cx_exec.specs.declared.machine.Step.TheVariants.{Done, AtEntry, Interrupt}
use Rattle.cx_exec_laws.specs.Laws.Decide.{StepsDecide}
use Rattle.cx_look_turn.specs.Traces.{Follows, Visits, visit}
use Rattle.cx_look_turn.specs.declared.traces.Visit.{Visit}
use Rattle.cx_look_cover.specs.Laws.{PassagesAreVisits}
use Rattle.cx_exec.specs.Passages.{FollowsPassage, Passage, Passages, passage}

abbrev at : Passage → Visit
at p = visit p.before

follow_visits : (m after : Machine) (step : Step) (GoesOn : List Passage → Type 0) (Goes : List Visit → Type 0) (passages : List Passage)
    (visits : List Visit) → ((more : List Passage) (some : List Visit) → GoesOn more → Goes some → map at more ≡ some)
    → FollowsPassage (passage m step after) step GoesOn passages → Follows (visit m) step Goes visits → map at passages ≡ visits
follow_visits m after Done GoesOn Goes passages visits same p q =
    ap (λ l. map at l) p.1 ∙ ap (λ more. visit m ∷ more) (same p.0 q.0 p.2 q.2) ∙ sym q.1
follow_visits m after (Interrupt cause) GoesOn Goes passages visits same p q = ap (λ l. map at l) p ∙ sym q
follow_visits m after AtEntry GoesOn Goes passages visits same p q = ap (λ l. map at l) p ∙ sym q

pub passages_are_visits : StepsDecide Steps → PassagesAreVisits
unfolding Passages Visits
passages_are_visits decide zero m passages visits p q = ap (λ l. map at l) p ∙ sym q
passages_are_visits decide (suc n) m passages visits (step, after, steps, follows) (end, left, ends, other) =
    let same = decide m step end after left steps ends in
    follow_visits m left end (Passages n left) (Visits n left) passages visits (passages_are_visits decide n left)
    (subst (λ (s : Step). FollowsPassage (passage m s left) s (Passages n left) passages) same.0
    (subst (λ (x : Machine). FollowsPassage (passage m step x) step (Passages n x) passages) same.1 follows))
    other
