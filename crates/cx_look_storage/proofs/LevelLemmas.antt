-- The level whose DFHEISTG starts at an address, one level on.
use Rattle.std.proofs.Common.{◌≡◌, ◌≤◌, ℕ, zero, suc, ◌+◌, Some, None, List, [], ◌∷◌, drop, length, slice_get, refl, subst, ap, ◌∙◌, arith}
use Rattle.std.specs.Prelude.{◌==◌, if◌then◌else◌}
use Rattle.std.proofs.lemmas.Option.{none-some, same_Some}
use Rattle.std.proofs.lemmas.Bool.{eq-eqb, ne_eqb}
use Rattle.cx_program.specs.declared.level.Level.{Level}
use Rattle.cx_look_storage.specs.Uses.{stg_from}

from_level : (n i start : ℕ) (levels : List Level) (level : Level) → slice_get levels i ≡ Some level → stg_from n (drop i levels) start ≡ (if level.stg == start then Some n else stg_from (n + 1) (drop (suc i) levels) start)
from_level n i start [] level e = absurd (none-some level e)
from_level n zero start (one ∷ rest) level e =
    let P : Level → Type 0 = λ l. stg_from n (one ∷ rest) start ≡ (if l.stg == start then Some n else stg_from (n + 1) rest start) in
    subst P (same_Some _ _ e) refl
from_level n (suc i) start (one ∷ rest) level e = from_level n i start rest level e

pub this_level : (i start : ℕ) (levels : List Level) (level : Level) → slice_get levels i ≡ Some level → level.stg ≡ start → stg_from (i + 1) (drop i levels) start ≡ Some (i + 1)
this_level i start levels level e is = from_level (i + 1) i start levels level e ∙ rw (eq-eqb level.stg start is) refl

pub next_level : (i start : ℕ) (levels : List Level) (level : Level) → slice_get levels i ≡ Some level → ¬ (level.stg ≡ start) → stg_from (i + 1) (drop i levels) start ≡ stg_from (i + 1 + 1) (drop (i + 1) levels) start
next_level i start levels level e apart = let one : suc i ≡ i + 1 = omega arith in
    from_level (i + 1) i start levels level e ∙ rw (ne_eqb level.stg start apart) (ap (λ k. stg_from (i + 1 + 1) (drop k levels) start) one)

pub no_level : (n i start : ℕ) (levels : List Level) → length levels ≤ i → stg_from n (drop i levels) start ≡ None
no_level n zero start [] h = refl
no_level n (suc i) start [] h = refl
no_level n zero start (one ∷ rest) h = absurd (omega (arith, h))
no_level n (suc i) start (one ∷ rest) h = no_level n i start rest (omega (arith, h))
