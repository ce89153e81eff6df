-- The screen of a terminal: 24 lines of 80 bytes, a 3270's larger screen (Introduction to the 3270, GA27-2739), and
-- what SEND TEXT shows on it (SC33-0077, "SEND TEXT"; which lines is this product's own rule).
use Rattle.std.specs.Prelude.{◌≡◌, ℕ, ◌-◌, Bool, if◌then◌else◌, List, [], ◌∷◌, ◌++◌, length, replicate}
use Rattle.std.specs.List.{AllByRecursion}
use Rattle.cx_service.specs.Lines.{blank, columns, AreLinesOf}

-- the number of a screen's lines
abbrev pub rows : ℕ
rows = 24

-- 24 lines of 80 bytes
unfoldable pub IsScreen : List (List ℕ) → Type 0
IsScreen screen = (length screen ≡ rows) × AllByRecursion (λ line. length line ≡ columns) screen

-- a blank screen
abbrev pub blank_screen : List (List ℕ)
blank_screen = replicate rows (replicate columns blank)

-- a line filled with blanks
abbrev pub full_line : List ℕ → List ℕ
full_line line = line ++ replicate (columns - length line) blank

-- The screen with lines over its own from the top. What it has no room for isn't shown.
unfoldable pub with_lines : List (List ℕ) → List (List ℕ) → List (List ℕ)
with_lines [] lines = []
with_lines (row ∷ rest) [] = row ∷ rest
with_lines (row ∷ rest) (line ∷ lines) = full_line line ∷ with_lines rest lines

-- the screen that the lines go on: blanked first by ERASE
abbrev pub screen_before_text : List (List ℕ) → Bool → List (List ℕ)
screen_before_text screen erase = if erase then blank_screen else screen

-- SEND TEXT: the lines of the text over the screen's
pub record ShowsText (old : List (List ℕ)) (text : List ℕ) (erase : Bool) (new : List (List ℕ)) : Type 0 where
  pub lines : List (List ℕ)
  pub are_lines : AreLinesOf text lines
  pub over : new ≡ with_lines (screen_before_text old erase) lines
