-- The steps of SEND TEXT.
use Rattle.std.specs.Prelude.{◌≡◌, ℕ, ◌<◌, ◌≤◌, Option, Some, None, List, [], ◌∷◌}
use Rattle.cx_service.specs.Lines.{parts_of, IsBreak, AreLinesOf}

-- a text's first part, and the text after the new line that ends it, if one does
abbrev pub IsFirstPart : List ℕ → List ℕ → Option (List ℕ) → Type 0
IsFirstPart text part None = parts_of text ≡ part ∷ []
IsFirstPart text part (Some after) = parts_of text ≡ part ∷ parts_of after

-- the lines still to come: none, or those of the text that is left
abbrev pub AreLinesLeft : Option (List ℕ) → List (List ℕ) → Type 0
AreLinesLeft None lines = lines ≡ []
AreLinesLeft (Some text) lines = AreLinesOf text lines

-- the greatest break below a bound
abbrev pub IsLastBreakBelow : ℕ → List ℕ → Option ℕ → Type 0
IsLastBreakBelow bound part None = (k : ℕ) → k < bound → IsBreak part k → ⊥
IsLastBreakBelow bound part (Some k) = IsBreak part k × ((j : ℕ) → j < bound → IsBreak part j → j ≤ k)
