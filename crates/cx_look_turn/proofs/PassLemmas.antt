-- A step before which more instructions come is done.
use Rattle.std.proofs.Common.{◌≡◌, ℕ, zero, suc, ◌+◌, ◌<◌, List, length, refl, ap, sym, subst, arith, ◌∙◌}
use Rattle.cx_exec.specs.Advance.{Passes}
use Rattle.cx_exec.specs.Machine.{Machine}
use Rattle.cx_exec.specs.Step.{Steps}
use Rattle.cx_exec.specs.declared.machine.Step.{Step}
use Rattle.cx_exec.specs.declared.machine.Step.TheVariants.{Done, AtEntry, Interrupt}
use Rattle.cx_exec_laws.specs.Laws.Decide.{StepsDecide}
use Rattle.cx_look_turn.specs.Traces.{ComesPast, Follows, Visits, visit}
use Rattle.cx_look_turn.specs.declared.traces.Visit.{Visit}
use Rattle.cx_look_turn.specs.Facts.Left.{passes_more}

goes_on : (one : Visit) (step : Step) (GoesOn : List Visit → Type 0) (visits : List Visit) → Follows one step GoesOn visits → 1 < length visits → step ≡ Done
goes_on one Done GoesOn visits follows longer = refl
goes_on one (Interrupt cause) GoesOn visits are longer =
    let whole = ap (λ (l : List Visit). length l) are in
    absurd (omega (arith, longer, whole))
goes_on one AtEntry GoesOn visits none longer =
    let whole = ap (λ (l : List Visit). length l) none in
    absurd (omega (arith, longer, whole))

is_done : StepsDecide Steps → (limit k : ℕ) (m now after : Machine) (end : Step) (visits : List Visit) → Visits limit m visits → suc k < length visits
    → Passes k m now → Steps now end after → end ≡ Done
unfolding Visits Passes
is_done decide zero k m now after end visits none longer passes steps =
    let whole = ap (λ (l : List Visit). length l) none in
    absurd (omega (arith, longer, whole))
is_done decide (suc n) zero m now after end visits (step, left, first, follows) longer passes steps =
    let same = decide m step end left after first (subst (λ (x : Machine). Steps x end after) passes steps) in
    sym same.0 ∙ goes_on (visit m) step (Visits n left) visits follows (omega (arith, longer))
is_done decide (suc n) (suc k) m now after end visits (step, left, first, follows) longer (mid, one, more) steps =
    let same = decide m step Done left mid first one in
    let rest = subst (λ (s : Step). Follows (visit m) s (Visits n left) visits) same.0 follows in
    let whole = ap (λ (l : List Visit). length l) rest.1 in
    is_done decide n k mid now after end rest.0 (subst (λ (x : Machine). Visits n x rest.0) same.1 rest.2) (omega (arith, longer, whole)) more steps

pub one_more : StepsDecide Steps → (m now after : Machine) (end : Step) (count k : ℕ) → ComesPast m count → k < count → Passes k m now
    → Steps now end after → Passes (k + 1) m after
one_more decide m now after end count k past less passes steps =
    let longer = past.longer in
    let done = is_done decide past.limit k m now after end past.visits past.are (omega (arith, less, longer)) passes steps in
    passes_more k m now after passes (subst (λ (s : Step). Steps now s after) done steps)
