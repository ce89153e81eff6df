-- The nearest exit with one level more.
use Rattle.std.specs.Prelude.{◌≡◌, ◌<◌, ℕ, zero, suc, true, false, Option, Some, None, List, [], ◌∷◌, ◌++◌, length}
use Rattle.std.proofs.Common.{refl, ◌∙◌, arith}
use Rattle.cx_program.specs.declared.level.Level.{Level}
use Rattle.cx_program.specs.Levels.{IsNearestExit, has_exit, has_exit_at}

-- after some levels comes the one that follows them
has_exit_at-last : (levels : List Level) (level : Level) → has_exit_at (levels ++ level ∷ []) (length levels) ≡ has_exit level
has_exit_at-last [] level = refl
has_exit_at-last (first ∷ rest) level = has_exit_at-last rest level

-- and nothing after that one
has_exit_at-past : (levels : List Level) (level : Level) (j : ℕ) → length levels < j → has_exit_at (levels ++ level ∷ []) j ≡ false
has_exit_at-past [] level zero past = absurd (omega arith)
has_exit_at-past [] level (suc j) past = refl
has_exit_at-past (first ∷ rest) level zero past = absurd (omega arith)
has_exit_at-past (first ∷ rest) level (suc j) past = has_exit_at-past rest level j (omega arith)

-- one more level without an exit adds none
has_exit_at-off : (levels : List Level) (level : Level) (j : ℕ) → has_exit level ≡ false → has_exit_at (levels ++ level ∷ []) j ≡ has_exit_at levels j
has_exit_at-off [] level zero off = off
has_exit_at-off [] level (suc j) off = refl
has_exit_at-off (first ∷ rest) level zero off = refl
has_exit_at-off (first ∷ rest) level (suc j) off = has_exit_at-off rest level j off

-- the exit of the last level is the nearest, where it is on
pub nearest_exit_on : (levels : List Level) (level : Level) → has_exit level ≡ true → IsNearestExit (levels ++ level ∷ []) (Some (length levels))
unfolding IsNearestExit
nearest_exit_on levels level on = (has_exit_at-last levels level ∙ on, λ j past. has_exit_at-past levels level j past)

-- the nearest exit stays so below a level whose exit isn't on
pub nearest_exit_off : (levels : List Level) (level : Level) (index : Option ℕ) → has_exit level ≡ false → IsNearestExit levels index → IsNearestExit (levels ++ level ∷ []) index
unfolding IsNearestExit
nearest_exit_off levels level None off nearest = λ j. has_exit_at-off levels level j off ∙ nearest j
nearest_exit_off levels level (Some i) off nearest =
    (has_exit_at-off levels level i off ∙ nearest.0, λ j past. has_exit_at-off levels level j off ∙ nearest.1 j past)

-- no level has an exit where there is none
pub nearest_exit_none : IsNearestExit [] None
unfolding IsNearestExit
nearest_exit_none = λ j. refl
