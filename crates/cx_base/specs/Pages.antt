-- Pages: 24 lines of 80 characters (own).
use Rattle.std.specs.Prelude.{◌≡◌, ℕ, ◌+◌, ◌==◌, if◌then◌else◌, List, [], ◌∷◌, ◌++◌, length, replicate}
use Rattle.std.specs.List.{AllByRecursion}
use Rattle.cx_base.specs.Digits.{digits}
use Rattle.cx_base.specs.Texts.{trim}

-- 24 lines of 80 characters
unfoldable pub IsPage : List (List ℕ) → Type 0
IsPage page = (length page ≡ 24) × AllByRecursion (λ line. length line ≡ 80) page

abbrev pub blank_page : List (List ℕ)
blank_page = replicate 24 (replicate 80 32)

-- a line of a page as it is written: with its number, and nothing where it is wholly blank
abbrev pub numbered_page_line : ℕ → List ℕ → List ℕ
numbered_page_line n text = if length text == 0 then [] else digits 10 2 n ++ (124 ∷ text) ++ (10 ∷ [])

abbrev pub lines_from : ℕ → List (List ℕ) → List ℕ
lines_from n [] = []
lines_from n (line ∷ lines) = numbered_page_line n (trim line) ++ lines_from (n + 1) lines

-- the lines that are not wholly blank, each with its number
unfoldable pub page_text : List (List ℕ) → List ℕ
page_text lines = lines_from 1 lines
