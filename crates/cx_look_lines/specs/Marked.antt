-- A text of lines of looks (own).
use Rattle.std.specs.Prelude.{◌≡◌, ℕ, true, List, ◌++◌, codes}
use Rattle.std.specs.List.{AllByRecursion, flat_map, list_all}
use Rattle.cx_look_lines.specs.Words.{is_in_line}

-- lines of looks: each begins with `> `, and its one LF is at its end
pub record IsOfLooks (text : List ℕ) : Type 0 where
  pub lines : List (List ℕ)
  pub are : AllByRecursion (λ line. list_all is_in_line line ≡ true) lines
  pub whole : text ≡ flat_map (λ line. codes "> " ++ line ++ codes "\n") lines
