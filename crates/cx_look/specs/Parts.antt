-- Words of functions that no other crate calls.
use Rattle.std.specs.Prelude.{◌≡◌, ℕ, ◌+◌, ◌<◌, ◌==◌, Bool, true, false, List, ◌++◌, length, map, min}
use Rattle.std.specs.List.{filter_map, slice_split}
use Rattle.cx_orders.specs.declared.states.KeyLine.{KeyLine}
use Rattle.cx_look.specs.Choices.{choice_of, lines_meant}
use Rattle.cx_look.specs.Sets.{one_of_each, piece_texts}

-- a number, counted up to 10,001
unfoldable pub few : ℕ → ℕ
few n = min n 10001

-- a text is put behind a line of at most 4,096 bytes, where it has room
abbrev pub IsPut : List ℕ → List ℕ → Bool → List ℕ → Type 0
IsPut line text true after = after ≡ line ++ text
IsPut line text false after = 4096 < length line + length text

-- what stands behind a text's first `{`
unfoldable pub texts_behind : List ℕ → List (List ℕ)
texts_behind text = one_of_each (map piece_texts (slice_split (λ c. c == 123) text))

-- the keys that a line of a block of CHOICES asks
abbrev pub choices_in : List ℕ → List KeyLine
choices_in text = filter_map choice_of (lines_meant text)
