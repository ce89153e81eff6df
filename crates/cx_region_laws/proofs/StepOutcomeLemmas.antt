-- From each machine there is a step, and a run.
use Rattle.std.proofs.Common.{◌≡◌, ℕ, zero, suc, ◌⊎◌, inl, inr, Result, Ok, Err, refl, arith}
use Rattle.std.specs.Prelude.{MatchResult}
use Rattle.cx_exec.specs.declared.machine.Interruption.{Interruption}
use Rattle.cx_exec.specs.declared.machine.Halt.{Halt}
use Rattle.cx_exec.specs.declared.machine.Halt.TheVariants as halt
use Rattle.cx_exec.specs.declared.machine.Step.{Step}
use Rattle.cx_exec.specs.declared.machine.Step.TheVariants as stepped
use Rattle.cx_exec.specs.declared.stepping.PendingInstruction.{PendingInstruction}
use Rattle.cx_exec.specs.Machine.{Machine}
use Rattle.cx_exec.specs.Advance.{Advances, Passes}
use Rattle.cx_exec.specs.Outcome.{IsSuppressed}
use Rattle.cx_exec.specs.Rows.{Effect}
use Rattle.cx_exec.specs.Step.{Runs, Steps, entry, instruction_to_perform}
use Rattle.cx_exec_laws.specs.Facts.Effects.{Ends}
use Rattle.cx_exec_laws.specs.Facts.Rows.{effect}
use Rattle.cx_exec_laws.specs.Facts.Tests.{equal_or_not}
use Rattle.cx_region_task.specs.Turn.{most_steps}
use Rattle.cx_region_laws.specs.Laws.Outcomes.{AdvancesHaveOutcomes, HasStep, StepsHaveOutcomes}

-- ---- steps and runs
performed : (m : Machine) → Ends (Runs m)
unfolding Runs
performed m = go (instruction_to_perform m)
  where
    go : (r : Result PendingInstruction Interruption) → Ends (λ outcome after. MatchResult r (λ d. Effect d.inst d.updated m outcome after) (λ cause. IsSuppressed cause m outcome after))
    go (Ok d) = (effect d.inst d.updated m).ends
    go (Err cause) = (Err cause, m, (refl, refl))

pub steps_have_outcomes : StepsHaveOutcomes
unfolding Steps
steps_have_outcomes m = go (equal_or_not m.next entry) (performed m)
  where
    go : (m.next ≡ entry) ⊎ (m.next ≡ entry → ⊥) → Ends (Runs m) → HasStep m
    go (inl e) end = record { step = stepped.AtEntry; after = m; steps = (e, refl) }
    go (inr elsewhere) (Ok u, after, done) = record { step = stepped.Done; after = after; steps = (elsewhere, done) }
    go (inr elsewhere) (Err cause, after, done) = record { step = stepped.Interrupt cause; after = after; steps = (elsewhere, done) }

record Halts (limit : ℕ) (m : Machine) : Type 0 where
  pub how : Halt
  pub after : Machine
  pub advances : Advances limit m how after

after_one : (n : ℕ) (m mid : Machine) → Steps m stepped.Done mid → Halts n mid → Halts (suc n) m
unfolding Advances Passes
after_one n m mid one rest = go rest.how rest.after rest.advances
  where
    go : (how : Halt) (after : Machine) → Advances n mid how after → Halts (suc n) m
    go halt.AtEntry after (k, within, passes, e) = record { how = halt.AtEntry; after = after; advances = (suc k, omega (arith, within), (mid, one, passes), e) }
    go (halt.Interrupt cause place) after (k, below, before, passes, step, there) =
        record { how = halt.Interrupt cause place; after = after; advances = (suc k, omega (arith, below), before, (mid, one, passes), step, there) }
    go halt.Limit after (passes, elsewhere) = record { how = halt.Limit; after = after; advances = ((mid, one, passes), elsewhere) }

at_limit : (m : Machine) → (m.next ≡ entry) ⊎ (m.next ≡ entry → ⊥) → Halts zero m
unfolding Advances Passes
at_limit m (inl e) = record { how = halt.AtEntry; after = m; advances = (zero, omega arith, refl, e) }
at_limit m (inr elsewhere) = record { how = halt.Limit; after = m; advances = (refl, elsewhere) }

by_step : (n : ℕ) (m : Machine) (step : Step) (after : Machine) → Steps m step after → (stepped.Done ≡ step → Halts n after) → Halts (suc n) m
unfolding Advances Passes Steps
by_step n m stepped.AtEntry after is rest = record { how = halt.AtEntry; after = m; advances = (zero, omega arith, refl, is.0) }
by_step n m (stepped.Interrupt cause) after is rest =
    record { how = halt.Interrupt cause after.next; after = after; advances = (zero, omega arith, m, refl, is, refl) }
by_step n m stepped.Done after is rest = after_one n m after is (rest refl)

halts : (n : ℕ) (m : Machine) → Halts n m
halts zero m = at_limit m (equal_or_not m.next entry)
halts (suc n) m = let it = steps_have_outcomes m in by_step n m it.step it.after it.steps (λ _. halts n it.after)

pub advances_have_outcomes : AdvancesHaveOutcomes
advances_have_outcomes m = let it = halts most_steps m in record { how = it.how; after = it.after; advances = it.advances }
