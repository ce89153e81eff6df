-- The instructions that a run comes to: how many there are at most, and which more come.
use Rattle.std.proofs.Common.{◌≡◌, ℕ, zero, suc, ◌-◌, ◌<◌, ◌≤◌, List, [], length, drop, ap, sym, subst, arith, ◌∙◌}
use Rattle.circular_buffer.specs.Buffer.{keep_last}
use Rattle.cx_exec.specs.Advance.{Passes}
use Rattle.cx_exec.specs.Machine.{Machine}
use Rattle.cx_exec.specs.Step.{Steps}
use Rattle.cx_exec.specs.declared.machine.Step.{Step}
use Rattle.cx_exec.specs.declared.machine.Step.TheVariants.{Done, AtEntry, Interrupt}
use Rattle.cx_exec_laws.specs.Laws.Decide.{StepsDecide}
use Rattle.cx_look_turn.specs.Traces.{ComesPast, Follows, IsTrace, Visits, visit}
use Rattle.cx_look_turn.specs.declared.traces.Visit.{Visit}

-- ---- all instructions of a turn are kept
no_visits : (n : ℕ) (visits : List Visit) → visits ≡ [] → length visits ≤ n
no_visits n visits none =
    let whole = ap (λ (l : List Visit). length l) none in
    omega (arith, whole)

few_after : (n : ℕ) (one : Visit) (step : Step) (after : Machine) (visits : List Visit) → ((more : List Visit) → Visits n after more → length more ≤ n)
    → Follows one step (Visits n after) visits → length visits ≤ suc n
few_after n one Done after visits few (more, are, goes) =
    let less = few more goes in
    let whole = ap (λ (l : List Visit). length l) are in
    omega (arith, less, whole)
few_after n one (Interrupt cause) after visits few are =
    let whole = ap (λ (l : List Visit). length l) are in
    omega (arith, whole)
few_after n one AtEntry after visits few none = no_visits (suc n) visits none

pub few_visits : (n : ℕ) (m : Machine) (visits : List Visit) → Visits n m visits → length visits ≤ n
unfolding Visits
few_visits zero m visits none = no_visits zero visits none
few_visits (suc n) m visits (step, after, steps, follows) = few_after n (visit m) step after visits (λ more are. few_visits n after more are) follows

pub kept_all : (n : ℕ) (visits : List Visit) → length visits ≤ n → keep_last n visits ≡ visits
kept_all n visits few =
    let none : length visits - n ≡ 0 = omega (arith, few) in
    ap (λ k. drop k visits) none

-- of a run of at most so many instructions
pub traced_all : (n : ℕ) (m : Machine) (count : ℕ) (last visits : List Visit) → IsTrace n m n count last → count ≡ length visits → last ≡ keep_last n visits → last ≡ visits
traced_all n m count last visits trace counted kept =
    let few = few_visits n m trace.visits trace.are in
    let same = trace.counted in
    kept ∙ kept_all n visits (omega (arith, few, same, counted))

-- ---- more come than so many that are kept
pub comes_past : (limit : ℕ) (m : Machine) (count n : ℕ) (last : List Visit) → IsTrace limit m limit count last → n < length last → ComesPast m n
comes_past limit m count n last trace less =
    let few = few_visits limit m trace.visits trace.are in
    let same = ap (λ (l : List Visit). length l) (trace.kept ∙ kept_all limit trace.visits few) in
    record { limit = limit; visits = trace.visits; are = trace.are; longer = omega (arith, less, same) }

-- ---- there is one machine after so many steps
pub passes_decide : StepsDecide Steps → (n : ℕ) (m one other : Machine) → Passes n m one → Passes n m other → one ≡ other
unfolding Passes
passes_decide decide zero m one other p q = p ∙ sym q
passes_decide decide (suc n) m one other (mid, step, more) (left, first, rest) =
    let same = decide m Done Done mid left step first in
    passes_decide decide n left one other (subst (λ (x : Machine). Passes n x one) same.1 more) rest
