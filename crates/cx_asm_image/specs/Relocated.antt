-- Relocated words: fullwords one after the other, as the copies of an address constant are placed (this product's own).
use Rattle.std.specs.Prelude.{ℕ, zero, suc, ◌+◌, List, [], ◌∷◌}

-- the offsets of n of them, from the first on
abbrev pub words_at : ℕ → ℕ → List ℕ
words_at at zero = []
words_at at (suc n) = at ∷ words_at (at + 4) n
