-- The number of the last task after which no task has the next.
use Rattle.std.proofs.Common.{◌≡◌, ℕ, zero, suc, ◌+◌, ◌<◌, ◌≤◌, List, length, true, false, ap, refl, sym, ◌∙◌, arith}
use Rattle.std.specs.Prelude.{if◌then◌else◌}
use Rattle.cx_region.specs.Attach.{next_number}
use Rattle.cx_region.specs.State.{TerminalState}
use Rattle.cx_choices.specs.Moves.{free_number, is_given}

module _ (terminals : List (List ℕ × TerminalState)) (number : ℕ) where
  -- so many numbers were tried, and the last of them is that
  pub record IsOnWay (tried last : ℕ) : Type 0 where
    pub more : ℕ
    pub many : more + tried ≡ length terminals
    pub same : free_number terminals more last ≡ free_number terminals (length terminals) number

  pub way_begins : IsOnWay 0 number
  way_begins = record { more = length terminals; many = omega arith; same = refl }

  pub way_goes_on : (tried last : ℕ) → IsOnWay tried last → tried < length terminals → is_given terminals (next_number last) ≡ true
      → IsOnWay (tried + 1) (next_number last)
  unfolding free_number
  way_goes_on tried last on l given = by on.more on.many on.same
    where
      by : (more : ℕ) → more + tried ≡ length terminals → free_number terminals more last ≡ free_number terminals (length terminals) number
          → IsOnWay (tried + 1) (next_number last)
      by zero many same = absurd (omega (arith, many, l))
      by (suc more) many same = record {
        more = more;
        many = omega (arith, many);
        same = sym (ap (λ b. if b then free_number terminals more (next_number last) else last) given) ∙ same;
      }

  pub way_ends : (tried last : ℕ) → IsOnWay tried last → is_given terminals (next_number last) ≡ false
      → last ≡ free_number terminals (length terminals) number
  unfolding free_number
  way_ends tried last on free = by on.more on.same
    where
      by : (more : ℕ) → free_number terminals more last ≡ free_number terminals (length terminals) number
          → last ≡ free_number terminals (length terminals) number
      by zero same = same
      by (suc more) same = sym (ap (λ b. if b then free_number terminals more (next_number last) else last) free) ∙ same

  pub way_is_over : (tried last : ℕ) → IsOnWay tried last → length terminals ≤ tried → last ≡ free_number terminals (length terminals) number
  unfolding free_number
  way_is_over tried last on over = by on.more on.many on.same
    where
      by : (more : ℕ) → more + tried ≡ length terminals → free_number terminals more last ≡ free_number terminals (length terminals) number
          → last ≡ free_number terminals (length terminals) number
      by zero many same = same
      by (suc more) many same = absurd (omega (arith, many, over))
