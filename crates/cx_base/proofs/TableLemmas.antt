-- When two tables are one, and two lists of shared values.
use Rattle.std.proofs.Common.{◌≡◌, ℕ, zero, suc, ◌+◌, ◌<◌, refl, ap, arith, List, [], ◌∷◌, length, take, slice_get}

-- two lists that are the same at each place
pub place_same : {X : Type 0} (xs ys : List X) (i : ℕ) → i < length xs → i < length ys → slice_get xs i ≡ slice_get ys i → take i xs ≡ take i ys → take (i + 1) xs ≡ take (i + 1) ys
place_same [] ys i lx ly e so = absurd (omega arith)
place_same (x ∷ xs) [] i lx ly e so = absurd (omega arith)
place_same (x ∷ xs) (y ∷ ys) zero lx ly e so = let same : x ≡ y = cc in rw same refl
place_same (x ∷ xs) (y ∷ ys) (suc i) lx ly e so =
    let first : x ≡ y = cc in
    let front : take i xs ≡ take i ys = cc in
    let more : suc i + 1 ≡ suc (i + 1) = omega arith in
    rw (more, first) (ap (λ rest. y ∷ rest) (place_same xs ys i (omega arith) (omega arith) e front))
