-- The bytes of the words that loading raises.
use Rattle.std.specs.Prelude.{ℕ, ◌+◌, Bool, true, ◌&&◌, nat_le, nat_lt, IsTrue, List, [], ◌∷◌}

-- whether a byte is one of the four of the word at an offset
abbrev pub is_of_word : ℕ → ℕ → Bool
is_of_word k r = nat_le r k && nat_lt k (r + 4)

-- no byte is of both words
abbrev pub SharesNoByte : ℕ → ℕ → Type 0
SharesNoByte r q = (k : ℕ) → IsTrue (is_of_word k r) → IsTrue (is_of_word k q) → ⊥

-- words in ascending order, each of them at or past the end of the one before it, and the first at or past an offset
abbrev pub are_in_order : ℕ → List ℕ → Bool
are_in_order from [] = true
are_in_order from (r ∷ relocs) = nat_le from r && are_in_order (r + 4) relocs
