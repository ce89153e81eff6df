-- The order of a source's lines.
use Rattle.std.specs.Prelude.{ℕ, ◌≤◌, ⊤, List, [], ◌∷◌, ◌++◌, Option, Some, None}
use Rattle.cx_source.specs.declared.source.Item.{Item}
use Rattle.cx_source.specs.declared.source.Stmt.{Stmt}

abbrev pub number_of : Option Stmt → ℕ → List ℕ
number_of None line = []
number_of (Some statement) line = line ∷ []

-- The numbers of the lines on which statements begin. Comments and continuation lines are left out, since what is put
-- after a continued statement has the number of its first line.
abbrev pub statement_lines : List Item → List ℕ
statement_lines [] = []
statement_lines (item ∷ rest) = number_of item.stmt item.line ++ statement_lines rest

-- numbers from this one on that don't descend
abbrev pub AscendFrom : ℕ → List ℕ → Type 0
AscendFrom first [] = ⊤
AscendFrom first (number ∷ rest) = (first ≤ number) × AscendFrom number rest
