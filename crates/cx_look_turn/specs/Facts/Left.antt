-- What a run of steps leaves.
use Rattle.std.proofs.Common.{◌≡◌, ℕ, zero, suc, ◌+◌, ◌<◌, ◌≤◌, inl, inr, arith, refl, sym, subst, ap, add-one, ◌∙◌}
use Rattle.std.proofs.lemmas.Bool.{cases_lt}
use Rattle.cx_exec.specs.Advance.{Advances, Passes}
use Rattle.cx_exec.specs.Machine.{Machine}
use Rattle.cx_exec.specs.Step.{Steps, entry}
use Rattle.cx_exec.specs.declared.machine.Halt.TheVariants as halt
use Rattle.cx_exec.specs.declared.machine.Interruption.{Interruption}
use Rattle.cx_exec.specs.declared.machine.Step.TheVariants.{Done, AtEntry, Interrupt}
use Rattle.cx_look_turn.specs.Traces.{Leaves}

pub passes_none : (m : Machine) → Passes 0 m m
unfolding Passes
passes_none m = refl

pub passes_suc : (n : ℕ) (m now after : Machine) → Passes n m now → Steps now Done after → Passes (suc n) m after
unfolding Passes
passes_suc zero m now after so_far step = (after, subst (λ (s : Machine). Steps s Done after) so_far step, refl)
passes_suc (suc n) m now after so_far step = (so_far.0, so_far.1, passes_suc n so_far.0 now after so_far.2 step)

pub passes_more : (n : ℕ) (m now after : Machine) → Passes n m now → Steps now Done after → Passes (n + 1) m after
passes_more n m now after so_far step = rw add-one (passes_suc n m now after so_far step)

pub left_at_entry : (limit n : ℕ) (m now after : Machine) → n < limit → Passes n m now → Steps now AtEntry after → Leaves limit m after
unfolding Advances Steps
left_at_entry limit n m now after below so_far step = record {
  how = halt.AtEntry;
  advances = (n, omega (arith, below), subst (λ (s : Machine). Passes n m s) (sym step.1) so_far, ap (λ (s : Machine). s.next) step.1 ∙ step.0);
}

pub left_interrupted : (limit n : ℕ) (m now after : Machine) (cause : Interruption) → n < limit → Passes n m now → Steps now (Interrupt cause) after
    → Leaves limit m after
unfolding Advances
left_interrupted limit n m now after cause below so_far step = record {
  how = halt.Interrupt cause after.next;
  advances = (n, below, now, so_far, step, refl);
}

pub left_at_limit : (limit n : ℕ) (m now : Machine) → n ≤ limit → limit ≤ n → Passes n m now → Leaves limit m now
unfolding Advances
left_at_limit limit n m now below all so_far =
    let same : n ≡ limit = omega (arith, below, all) in
    let whole = subst (λ k. Passes k m now) same so_far in
    elim (cases_lt now.next entry) [
      | inl low ↦ record { how = halt.Limit; advances = (whole, λ e. absurd (omega (arith, low, e))) }
      | inr high ↦ elim (cases_lt entry now.next) [
        | inl more ↦ record { how = halt.Limit; advances = (whole, λ e. absurd (omega (arith, more, e))) }
        | inr low ↦ record { how = halt.AtEntry; advances = (n, below, so_far, omega (arith, high, low)) }
      ]
    ]
