-- The lines that SEND TEXT makes of a text. The rule is this product's own, after the Application Programmer's
-- Reference Manual (Command Level), SC33-0077, "SEND TEXT": words stay whole where they can.
use Rattle.std.specs.Prelude.{◌≡◌, ℕ, ◌+◌, ◌≤◌, ◌==◌, nat_le, Option, Some, None, List, [], ◌∷◌, ◌++◌, length, take, drop, slice_get, MatchBool}
use Rattle.std.specs.List.{slice_split}

-- the byte between two parts of a text: new line
abbrev pub new_line : ℕ
new_line = 0x15

-- a blank
abbrev pub blank : ℕ
blank = 0x40

-- the most bytes that a line has
abbrev pub columns : ℕ
columns = 80

-- the parts of a text: it is split at each new line
abbrev pub parts_of : List ℕ → List (List ℕ)
parts_of text = slice_split (λ byte. byte == new_line) text

-- a place where a part may be broken: k from 1 to 80, and after its first k bytes comes a blank
pub record IsBreak (part : List ℕ) (k : ℕ) : Type 0 where
  pub from : 1 ≤ k
  pub to : k ≤ columns
  pub at_blank : slice_get part k ≡ Some blank

-- the greatest such k, or None where there is none
abbrev pub IsLastBreak : List ℕ → Option ℕ → Type 0
IsLastBreak part None = (k : ℕ) → IsBreak part k → ⊥
IsLastBreak part (Some k) = IsBreak part k × ((j : ℕ) → IsBreak part j → j ≤ k)

-- the line before the break; without one, the first 80 bytes
abbrev pub line_before : List ℕ → Option ℕ → List ℕ
line_before part None = take columns part
line_before part (Some k) = take k part

-- what is left of the part after the break, whose blank is dropped
abbrev pub left_after : List ℕ → Option ℕ → List ℕ
left_after part None = drop columns part
left_after part (Some k) = drop (k + 1) part

-- a part that is too long: its next line, and what is left of it
pub record Breaks (part line left : List ℕ) : Type 0 where
  pub place : Option ℕ
  pub last : IsLastBreak part place
  pub before : line ≡ line_before part place
  pub after : left ≡ left_after part place

-- The lines of a part: while it is longer than 80 bytes it is broken, and the rest is a line, be it empty.
unfoldable pub ArePartLines : List ℕ → List (List ℕ) → Type 0
ArePartLines part [] = ⊥
ArePartLines part (line ∷ lines) =
    MatchBool (nat_le (length part) columns)
    ((line ≡ part) × (lines ≡ []))
    ((left : List ℕ) × Breaks part line left × ArePartLines left lines)

-- the lines of several parts, one part after another
unfoldable pub AreLines : List (List ℕ) → List (List ℕ) → Type 0
AreLines [] lines = lines ≡ []
AreLines (part ∷ parts) lines =
    (own : List (List ℕ)) × (others : List (List ℕ)) × (lines ≡ own ++ others) × ArePartLines part own
    × AreLines parts others

-- the lines of a text
abbrev pub AreLinesOf : List ℕ → List (List ℕ) → Type 0
AreLinesOf text lines = AreLines (parts_of text) lines
