-- Texts beside their offsets.
use Rattle.std.proofs.Common.{◌≡◌, ◌≤◌, ℕ, List, [], ◌∷◌, drop, length, refl, arith}
use Rattle.std.proofs.Math.ListN.{drop_of_length-le}
use Rattle.std.specs.List.{zip}

zip_none : {K X : Type 0} (ks : List K) → zip {K = K} {X = X} ks [] ≡ []
zip_none [] = refl
zip_none (k ∷ ks) = refl

-- past the last offset no text is left
pub zip_ends : {K X : Type 0} (ks : List K) (vs : List X) (i : ℕ) → length vs ≤ i → zip ks (drop i vs) ≡ []
zip_ends ks vs i past = rw (drop_of_length-le vs {i = i} past) (zip_none ks)

-- without offsets no text has a place
pub zip_of_none : {K X : Type 0} (ks : List K) (vs : List X) → length vs ≡ 0 → zip ks vs ≡ []
zip_of_none ks [] none = zip_none ks
zip_of_none ks (v ∷ vs) none = absurd (omega (arith, none))
