-- Sets: the texts that a text with sets of alternatives stands for (own).
use Rattle.std.specs.Prelude.{ℕ, ◌+◌, ◌==◌, nat_le, if◌then◌else◌, List, [], ◌∷◌, ◌++◌, codes, drop, length, map, position, take}
use Rattle.std.specs.List.{flat_map, slice_split}
use Rattle.std.specs.Option.{option_map_or}

-- The codes of the characters that make sets: 123 `{`, 124 `|`, 125 `}`, 35 `#`.

-- a text of each list, one behind the other: those of the first list change last
unfoldable pub one_of_each : List (List (List ℕ)) → List (List ℕ)
one_of_each [] = [] ∷ []
one_of_each (texts ∷ more) = flat_map (λ text. map (λ rest. text ++ rest) (one_of_each more)) texts

-- within a set `#` stands for each digit, any other character for itself
abbrev pub character_texts : ℕ → List (List ℕ)
character_texts c = if c == 35 then map (λ digit. digit ∷ []) (codes "0123456789") else (c ∷ []) ∷ []

unfoldable pub alternative_texts : List ℕ → List (List ℕ)
alternative_texts text = one_of_each (map character_texts text)

-- a set, by what stands between `{` and `}`: its alternatives are separated by `|`
unfoldable pub set_texts : List ℕ → List (List ℕ)
set_texts inside = flat_map alternative_texts (slice_split (λ c. c == 124) inside)

-- what stands behind a `{`, up to the next: a set, and what follows its `}`; without a `}` it stands for nothing
unfoldable pub piece_texts : List ℕ → List (List ℕ)
piece_texts piece =
    option_map_or (λ place. map (λ text. text ++ drop (place + 1) piece) (set_texts (take place piece)))
    (position (λ c. c == 125) piece) []

-- a text, by its pieces: what stands before the first `{`, and what stands behind each
abbrev pub pieces_texts : List (List ℕ) → List (List (List ℕ))
pieces_texts [] = []
pieces_texts (first ∷ behind) = (first ∷ []) ∷ map piece_texts behind

abbrev pub all_texts : List ℕ → List (List ℕ)
all_texts text = one_of_each (pieces_texts (slice_split (λ c. c == 123) text))

-- What a text stands for, in order: at most 10,000 texts. One that would stand for more stands for nothing.
unfoldable pub texts_meant : List ℕ → List (List ℕ)
texts_meant text = let all = all_texts text in if nat_le (length all) 10000 then all else []
