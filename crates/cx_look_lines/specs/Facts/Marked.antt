-- What is written of lines is a text of lines of looks.
use Rattle.std.specs.Prelude.{◌≡◌, ℕ, Bool, true, false, List, [], ◌∷◌, ◌++◌, codes, cond, map}
use Rattle.std.specs.List.{AllByRecursion, filter, flat_map, list_all}
use Rattle.std.proofs.Common.{refl, ap}
use Rattle.cx_look_lines.specs.Marked.{IsOfLooks}
use Rattle.cx_look_lines.specs.Words.{Lines, is_in_line, marked}

-- a line has no LF
abbrev IsLine : List ℕ → Type 0
IsLine line = list_all is_in_line line ≡ true

kept_is_line : (line : List ℕ) → IsLine (filter is_in_line line)
kept_is_line [] = refl
kept_is_line (c ∷ line) = go (is_in_line c) refl (kept_is_line line)
  where
    go : (b : Bool) → is_in_line c ≡ b → IsLine (filter is_in_line line) → IsLine (cond b (c ∷ filter is_in_line line) (filter is_in_line line))
    go true e p = rw (e, p) refl
    go false e p = p

kept_are_lines : (lines : Lines) → AllByRecursion IsLine (map (filter is_in_line) lines)
kept_are_lines [] = tt
kept_are_lines (line ∷ lines) = (kept_is_line line, kept_are_lines lines)

same_text : (lines : Lines) → marked lines ≡ flat_map (λ line. codes "> " ++ line ++ codes "\n") (map (filter is_in_line) lines)
unfolding marked
same_text [] = refl
same_text (line ∷ lines) = ap (λ rest. (codes "> " ++ filter is_in_line line ++ codes "\n") ++ rest) (same_text lines)

pub marked_is_of_looks : (lines : Lines) → IsOfLooks (marked lines)
marked_is_of_looks lines = record { lines = map (filter is_in_line) lines; are = kept_are_lines lines; whole = same_text lines }
