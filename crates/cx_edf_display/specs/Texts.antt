-- Lines of a display's page (own).
use Rattle.std.specs.Prelude.{ℕ, ◌-◌, List, fold, slice_set}
use Rattle.cx_base.specs.Texts.{in_columns, join}

-- a page with these pieces in place of a line, counted from 1, and with each of some lines
abbrev pub with_page_line : List (List ℕ) → ℕ → List (List ℕ) → List (List ℕ)
with_page_line page line pieces = slice_set page (line - 1) (in_columns 80 (join pieces))

abbrev pub with_page_lines : List (List ℕ) → List (ℕ × List (List ℕ)) → List (List ℕ)
with_page_lines page lines = fold (λ page line. with_page_line page line.0 line.1) page lines
