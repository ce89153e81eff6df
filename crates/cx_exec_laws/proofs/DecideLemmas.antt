-- A step and a run are decided by the machine before them, since a dividend has one quotient.
use Rattle.std.proofs.Common.{◌≡◌, ◌≢◌, ℕ, zero, suc, ◌<◌, ◌≤◌, Result, Ok, Err, refl, sym, ◌∙◌, ap, subst, arith, MatchResult}
use Rattle.cx_exec.specs.declared.machine.Interruption.{Interruption}
use Rattle.cx_exec.specs.declared.machine.Step.{Step}
use Rattle.cx_exec.specs.declared.machine.Step.TheVariants.{Done, AtEntry, Interrupt}
use Rattle.cx_exec.specs.declared.machine.Halt.{Halt}
use Rattle.cx_exec.specs.declared.machine.Halt.TheVariants as halt
use Rattle.cx_exec.specs.declared.stepping.PendingInstruction.{PendingInstruction}
use Rattle.cx_exec.specs.Machine.{Machine}
use Rattle.cx_exec.specs.Outcome.{Outcome, IsSuppressed}
use Rattle.cx_exec.specs.Rows.{Effect}
use Rattle.cx_exec.specs.Step.{instruction_to_perform, Runs, Steps, entry}
use Rattle.cx_exec.specs.Advance.{Passes, Advances}
use Rattle.cx_exec_laws.specs.Facts.Rows.{effect}
use Rattle.cx_exec.specs.Laws.Numbers.{DivisionIsOne}

abbrev Ends : Machine → Result PendingInstruction Interruption → Outcome → Machine → Type 0
Ends m r outcome after = MatchResult r (λ d. Effect d.inst d.updated m outcome after) (λ cause. IsSuppressed cause m outcome after)

runs_decides : DivisionIsOne → (m : Machine) (o p : Outcome) (a b : Machine) → Runs m o a → Runs m p b → (o ≡ p) × (a ≡ b)
unfolding Runs
runs_decides one m o p a b h k = go (instruction_to_perform m) h k
  where
    go : (r : Result PendingInstruction Interruption) → Ends m r o a → Ends m r p b → (o ≡ p) × (a ≡ b)
    go (Ok d) h k = (effect d.inst d.updated m).decides one o p a b h k
    go (Err cause) h k = (h.0 ∙ sym k.0, h.1 ∙ sym k.1)

pub steps_decide : DivisionIsOne → (m : Machine) (s t : Step) (a b : Machine) → Steps m s a → Steps m t b → (s ≡ t) × (a ≡ b)
unfolding Steps
steps_decide one m AtEntry AtEntry a b h k = (refl, h.1 ∙ sym k.1)
steps_decide one m AtEntry Done a b h k = absurd (k.0 h.0)
steps_decide one m AtEntry (Interrupt d) a b h k = absurd (k.0 h.0)
steps_decide one m Done AtEntry a b h k = absurd (h.0 k.0)
steps_decide one m Done Done a b h k = (refl, (runs_decides one m _ _ a b h.1 k.1).1)
steps_decide one m Done (Interrupt d) a b h k = let e = (runs_decides one m _ _ a b h.1 k.1).0 in absurd (cc)
steps_decide one m (Interrupt c) AtEntry a b h k = absurd (h.0 k.0)
steps_decide one m (Interrupt c) Done a b h k = let e = (runs_decides one m _ _ a b h.1 k.1).0 in absurd (cc)
steps_decide one m (Interrupt c) (Interrupt d) a b h k =
    let e = runs_decides one m _ _ a b h.1 k.1 in
    let same : c ≡ d = let first = e.0 in cc in
    (ap Interrupt same, e.1)

-- no step is done from here
abbrev Rests : Machine → Type 0
Rests m = (next : Machine) → Steps m Done next → ⊥

rests_at_entry : (m : Machine) → m.next ≡ entry → Rests m
unfolding Steps
rests_at_entry m e next h = h.0 e

rests_interrupted : DivisionIsOne → (m after : Machine) (cause : Interruption) → Steps m (Interrupt cause) after → Rests m
rests_interrupted one m after cause h next k = let e = (steps_decide one m _ _ _ _ h k).0 in cc

passes_decide : DivisionIsOne → (n : ℕ) (m a b : Machine) → Passes n m a → Passes n m b → a ≡ b
unfolding Passes
passes_decide one zero m a b h k = h ∙ sym k
passes_decide one (suc n) m a b h k =
    let same = (steps_decide one m Done Done h.0 k.0 h.1 k.1).1 in
    passes_decide one n k.0 a b (subst (λ (x : Machine). Passes n x a) same h.2) k.2

-- no run goes on past a machine that rests
passes_end : DivisionIsOne → (n k : ℕ) (m a b : Machine) → Passes n m a → Rests a → Passes k m b → k ≤ n
unfolding Passes
passes_end one n zero m a b h rests k = omega arith
passes_end one zero (suc k) m a b h rests run = absurd (subst Rests h rests run.0 run.1)
passes_end one (suc n) (suc k) m a b h rests run =
    let same = (steps_decide one m Done Done h.0 run.0 h.1 run.1).1 in
    let shorter = passes_end one n k run.0 a b (subst (λ (x : Machine). Passes n x a) same h.2) rests run.2 in
    omega (arith, shorter)

-- two runs to machines that rest are one
rests_once : DivisionIsOne → (n k : ℕ) (m a b : Machine) → Passes n m a → Rests a → Passes k m b → Rests b → (n ≡ k) × (a ≡ b)
rests_once one n k m a b h rests run stays =
    let down = passes_end one n k m a b h rests run in
    let up = passes_end one k n m b a run stays h in
    let same : n ≡ k = omega (arith, down, up) in
    (same, passes_decide one k m a b (subst (λ (x : ℕ). Passes x m a) same h) run)

interrupted_apart : (m after : Machine) (cause : Interruption) → Steps m (Interrupt cause) after → m.next ≢ entry
unfolding Steps
interrupted_apart m after cause h = h.0

entry_or_interrupt : DivisionIsOne → (n k : ℕ) (m a before b : Machine) (cause : Interruption) → Passes n m a → a.next ≡ entry → Passes k m before → Steps before (Interrupt cause) b → ⊥
entry_or_interrupt one n k m a before b cause run e turn last =
    let same = (rests_once one n k m a before run (rests_at_entry a e) turn (rests_interrupted one before b cause last)).1 in
    interrupted_apart before b cause last (ap (λ (x : Machine). x.next) (sym same) ∙ e)

entry_or_limit : DivisionIsOne → (limit n : ℕ) (m a b : Machine) → n ≤ limit → Passes n m a → a.next ≡ entry → Passes limit m b → b.next ≢ entry → ⊥
entry_or_limit one limit n m a b small run e all apart =
    let up = passes_end one n limit m a b run (rests_at_entry a e) all in
    let same : n ≡ limit = omega (arith, small, up) in
    let last = passes_decide one limit m a b (subst (λ (x : ℕ). Passes x m a) same run) all in
    apart (ap (λ (x : Machine). x.next) (sym last) ∙ e)

interrupt_or_limit : DivisionIsOne → (limit n : ℕ) (m before a b : Machine) (cause : Interruption) → n < limit → Passes n m before → Steps before (Interrupt cause) a → Passes limit m b → ⊥
interrupt_or_limit one limit n m before a b cause small run last all =
    let up = passes_end one n limit m before b run (rests_interrupted one before a cause last) all in
    omega (arith, small, up)

interrupts_alike : DivisionIsOne → (n k : ℕ) (m before a other b : Machine) (c d : Interruption) → Passes n m before → Steps before (Interrupt c) a → Passes k m other → Steps other (Interrupt d) b → (c ≡ d) × (a ≡ b)
interrupts_alike one n k m before a other b c d run last turn end =
    let same = (rests_once one n k m before other run (rests_interrupted one before a c last) turn (rests_interrupted one other b d end)).1 in
    let both = steps_decide one other (Interrupt c) (Interrupt d) a b (subst (λ (x : Machine). Steps x (Interrupt c) a) same last) end in
    let first = both.0 in
    let cause : c ≡ d = cc in
    (cause, both.1)

pub runs_decide : DivisionIsOne → (limit : ℕ) (m : Machine) (h k : Halt) (a b : Machine) → Advances limit m h a → Advances limit m k b → (h ≡ k) × (a ≡ b)
unfolding Advances
runs_decide one limit m halt.AtEntry halt.AtEntry a b (n, small, run, e) (k, low, turn, f) =
    (refl, (rests_once one n k m a b run (rests_at_entry a e) turn (rests_at_entry b f)).1)
runs_decide one limit m halt.AtEntry (halt.Interrupt d q) a b (n, small, run, e) (k, low, before, turn, last, f) =
    absurd (entry_or_interrupt one n k m a before b d run e turn last)
runs_decide one limit m halt.AtEntry halt.Limit a b (n, small, run, e) (all, apart) =
    absurd (entry_or_limit one limit n m a b small run e all apart)
runs_decide one limit m (halt.Interrupt c p) halt.AtEntry a b (n, small, before, run, last, e) (k, low, turn, f) =
    absurd (entry_or_interrupt one k n m b before a c turn f run last)
runs_decide one limit m (halt.Interrupt c p) (halt.Interrupt d q) a b (n, small, before, run, last, e) (k, low, other, turn, end, f) =
    let same = interrupts_alike one n k m before a other b c d run last turn end in
    let place : p ≡ q = e ∙ ap (λ (x : Machine). x.next) same.1 ∙ sym f in
    let cause = same.0 in
    let whole : halt.Interrupt c p ≡ halt.Interrupt d q = cc in
    (whole, same.1)
runs_decide one limit m (halt.Interrupt c p) halt.Limit a b (n, small, before, run, last, e) (all, apart) =
    absurd (interrupt_or_limit one limit n m before a b c small run last all)
runs_decide one limit m halt.Limit halt.AtEntry a b (all, apart) (k, low, turn, f) =
    absurd (entry_or_limit one limit k m b a low turn f all apart)
runs_decide one limit m halt.Limit (halt.Interrupt d q) a b (all, apart) (k, low, before, turn, last, f) =
    absurd (interrupt_or_limit one limit k m before b a d low turn last all)
runs_decide one limit m halt.Limit halt.Limit a b h k = (refl, passes_decide one limit m a b h.0 k.0)
