-- Numbers of lines in ranges (own).
use Rattle.std.specs.Prelude.{ℕ, ◌+◌, ◌==◌, if◌then◌else◌, List, [], ◌∷◌}
use Rattle.cx_look_cover.specs.declared.ranges.LineRange.{LineRange}

abbrev pub range : ℕ → ℕ → LineRange
range first last = record { first = first; last = last }

-- from a range on: a number joins it where it is the one after its last
abbrev pub ranges_from : ℕ → ℕ → List ℕ → List LineRange
ranges_from first last [] = range first last ∷ []
ranges_from first last (line ∷ lines) =
    if line == last + 1 then ranges_from first line lines else range first last ∷ ranges_from line line lines

abbrev pub ranges_of : List ℕ → List LineRange
ranges_of [] = []
ranges_of (line ∷ lines) = ranges_from line line lines
