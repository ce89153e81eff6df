-- The nearest exit is one.
use Rattle.std.specs.Prelude.{◌≡◌, ◌<◌, ℕ, false, Option, Some, None, List}
use Rattle.std.proofs.Common.{refl, ap, arith}
use Rattle.cx_program.specs.declared.level.Level.{Level}
use Rattle.cx_program.specs.Levels.{IsNearestExit, has_exit_at}

-- at most one answer is the nearest exit
pub nearest_exit_one : (levels : List Level) (one other : Option ℕ) → IsNearestExit levels one → IsNearestExit levels other → one ≡ other
unfolding IsNearestExit
nearest_exit_one levels None None one_is other_is = refl
nearest_exit_one levels None (Some j) one_is other_is = let off : has_exit_at levels j ≡ false = one_is j in cc
nearest_exit_one levels (Some i) None one_is other_is = let off : has_exit_at levels i ≡ false = other_is i in cc
nearest_exit_one levels (Some i) (Some j) one_is other_is =
    let not_below : i < j → ⊥ = λ below. let off : has_exit_at levels j ≡ false = one_is.1 j below in cc in
    let not_above : j < i → ⊥ = λ above. let off : has_exit_at levels i ≡ false = other_is.1 i above in cc in
    let same : i ≡ j = omega (arith, not_below, not_above) in
    ap (λ (k : ℕ). Some k) same
