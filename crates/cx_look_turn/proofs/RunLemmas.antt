-- The instructions of a run.
use Rattle.std.proofs.Common.{◌≡◌, ℕ, zero, suc, inl, inr, arith, List, [], ◌∷◌, length, slice_get, refl, sym, subst, ap, ◌∙◌}
use Rattle.std.proofs.lemmas.Bool.{cases_lt}
use Rattle.cx_exec.specs.Advance.{Advances, Passes}
use Rattle.cx_exec.specs.Machine.{Machine}
use Rattle.cx_exec.specs.Step.{Steps, entry}
use Rattle.cx_exec.specs.declared.machine.Halt.{Halt}
use Rattle.cx_exec.specs.declared.machine.Halt.TheVariants as halt
use Rattle.cx_exec.specs.declared.machine.Step.{Step}
use Rattle.cx_exec.specs.declared.machine.Step.TheVariants.{Done, AtEntry, Interrupt}
use Rattle.cx_exec_laws.specs.Laws.Decide.{RunsDecide, StepsDecide}
use Rattle.circular_buffer.specs.Buffer.{keep_last}
use Rattle.cx_look_turn.specs.Laws.{AreAsMany, IsEachVisit, TracesDecide, VisitsAreOfRuns}
use Rattle.cx_look_turn.specs.Traces.{Follows, Visits, visit}
use Rattle.cx_look_turn.specs.declared.traces.Visit.{Visit}

follows_decide : (one : Visit) (step : Step) (GoesOn : List Visit → Type 0) (visits others : List Visit)
    → ((more some : List Visit) → GoesOn more → GoesOn some → more ≡ some) → Follows one step GoesOn visits → Follows one step GoesOn others → visits ≡ others
follows_decide one Done GoesOn visits others same p q = p.1 ∙ ap (λ more. one ∷ more) (same p.0 q.0 p.2 q.2) ∙ sym q.1
follows_decide one (Interrupt cause) GoesOn visits others same p q = p ∙ sym q
follows_decide one AtEntry GoesOn visits others same p q = p ∙ sym q

visits_decide : StepsDecide Steps → (n : ℕ) (m : Machine) (visits others : List Visit) → Visits n m visits → Visits n m others → visits ≡ others
unfolding Visits
visits_decide decide zero m visits others p q = p ∙ sym q
visits_decide decide (suc n) m visits others (step, after, steps, follows) (end, left, ends, other) =
    let same = decide m step end after left steps ends in
    follows_decide (visit m) end (Visits n left) visits others (visits_decide decide n left)
    (subst (λ (s : Step). Follows (visit m) s (Visits n left) visits) same.0 (subst (λ (x : Machine). Follows (visit m) step (Visits n x) visits) same.1 follows))
    other

pub traces_decide : StepsDecide Steps → TracesDecide
traces_decide decide limit m most count other last some p q =
    let same = visits_decide decide limit m p.visits q.visits p.are q.are in
    (p.counted ∙ ap (λ visits. length visits) same ∙ sym q.counted, p.kept ∙ ap (λ visits. keep_last most visits) same ∙ sym q.kept)

-- ---- the run that they are of
record Run (limit : ℕ) (m : Machine) (visits : List Visit) : Type 0 where
  how : Halt
  after : Machine
  advances : Advances limit m how after
  are : AreAsMany limit how m after visits

one_before : (limit : ℕ) (m mid after : Machine) (how : Halt) (more : List Visit) → Steps m Done mid → Advances limit mid how after
    → AreAsMany limit how mid after more → Advances (suc limit) m how after × AreAsMany (suc limit) how m after (visit m ∷ more)
unfolding Advances Passes
one_before limit m mid after halt.AtEntry more step (n, small, run, e) are =
    ((suc n, omega (arith, small), (mid, step, run), e), (mid, step, are))
one_before limit m mid after (halt.Interrupt cause place) more step (n, small, before, run, last, e) are = (
  (suc n, omega (arith, small), before, (mid, step, run), last, e),
  record {
    done = visit m ∷ are.done;
    before = are.before;
    are = ap (λ (l : List Visit). visit m ∷ l) are.are;
    passes = (mid, step, are.passes);
    steps = are.steps;
  },
)
one_before limit m mid after halt.Limit more step (run, apart) (passes, same) = (((mid, step, run), apart), ((mid, step, passes), ap suc same))

passes_none : (m : Machine) (visits : List Visit) → visits ≡ [] → Passes (length visits) m m
unfolding Passes
passes_none m visits none = subst (λ (l : List Visit). Passes (length l) m m) (sym none) refl

no_more : (visits : List Visit) → visits ≡ [] → length visits ≡ zero
no_more visits none = ap (λ (l : List Visit). length l) none

none_left : (m : Machine) (visits : List Visit) → visits ≡ [] → Run zero m visits
unfolding Advances Passes
none_left m visits none = elim (cases_lt m.next entry) [
  | inl low ↦
      record { how = halt.Limit; after = m; advances = (refl, λ e. absurd (omega (arith, low, e))); are = (passes_none m visits none, no_more visits none) }
  | inr high ↦ elim (cases_lt entry m.next) [
    | inl more ↦
        record { how = halt.Limit; after = m; advances = (refl, λ e. absurd (omega (arith, more, e))); are = (passes_none m visits none, no_more visits none) }
    | inr low ↦
        record { how = halt.AtEntry; after = m; advances = (zero, omega arith, refl, omega (arith, high, low)); are = passes_none m visits none }
  ]
]

-- one step in front of the run from there on
from_one : (n : ℕ) (m after : Machine) (visits : List Visit) (step : Step) → Steps m step after
    → ((more : List Visit) → Visits n after more → Run n after more) → Follows (visit m) step (Visits n after) visits → Run (suc n) m visits
unfolding Advances Passes Steps
from_one n m after visits Done steps run_from (more, are, goes_on) =
    let run = run_from more goes_on in
    let both = one_before n m after run.after run.how more steps run.advances run.are in
    record { how = run.how; after = run.after; advances = both.0; are = subst (AreAsMany (suc n) run.how m run.after) (sym are) both.1 }
from_one n m after visits (Interrupt cause) steps run_from are =
    record {
      how = halt.Interrupt cause after.next;
      after = after;
      advances = (zero, omega arith, m, refl, steps, refl);
      are = record { done = []; before = m; are = are; passes = refl; steps = steps };
    }
from_one n m after visits AtEntry steps run_from none =
    record { how = halt.AtEntry; after = m; advances = (zero, omega arith, refl, steps.0); are = passes_none m visits none }

run_of : (limit : ℕ) (m : Machine) (visits : List Visit) → Visits limit m visits → Run limit m visits
unfolding Visits
run_of zero m visits none = none_left m visits none
run_of (suc n) m visits (step, after, steps, follows) = from_one n m after visits step steps (λ more are. run_of n after more are) follows

-- ---- each of them
each_from : (n : ℕ) (m after : Machine) (visits : List Visit) (step : Step) → Steps m step after
    → ((more : List Visit) → Visits n after more → IsEachVisit after more) → Follows (visit m) step (Visits n after) visits → IsEachVisit m visits
unfolding Passes
each_from n m after visits Done steps rest (more, are, goes_on) zero less =
    record { now = m; passes = refl; is = ap (λ (l : List Visit). slice_get l zero) are }
each_from n m after visits Done steps rest (more, are, goes_on) (suc k) less =
    let whole = ap (λ (l : List Visit). length l) are in
    let it = rest more goes_on k (omega (arith, less, whole)) in
    record { now = it.now; passes = (after, steps, it.passes); is = ap (λ (l : List Visit). slice_get l (suc k)) are ∙ it.is }
each_from n m after visits (Interrupt cause) steps rest are zero less =
    record { now = m; passes = refl; is = ap (λ (l : List Visit). slice_get l zero) are }
each_from n m after visits (Interrupt cause) steps rest are (suc k) less =
    let whole = ap (λ (l : List Visit). length l) are in
    absurd (omega (arith, less, whole))
each_from n m after visits AtEntry steps rest none k less =
    let whole = ap (λ (l : List Visit). length l) none in
    absurd (omega (arith, less, whole))

each_visit : (limit : ℕ) (m : Machine) (visits : List Visit) → Visits limit m visits → IsEachVisit m visits
unfolding Visits
each_visit zero m visits none k less =
    let whole = ap (λ (l : List Visit). length l) none in
    absurd (omega (arith, less, whole))
each_visit (suc n) m visits (step, after, steps, follows) k less = each_from n m after visits step steps (λ more are. each_visit n after more are) follows k less

pub visits_are_of_runs : ((limit : ℕ) → RunsDecide (Advances limit)) → VisitsAreOfRuns
visits_are_of_runs decide limit m after how visits are advances =
    let run = run_of limit m visits are in
    let same = decide limit m run.how how run.after after run.advances advances in (
      subst (λ (h : Halt). AreAsMany limit h m after visits) same.0 (subst (λ (x : Machine). AreAsMany limit run.how m x visits) same.1 run.are),
      each_visit limit m visits are,
    )
