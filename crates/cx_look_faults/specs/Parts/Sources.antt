-- A source of one EXEC statement.
use Rattle.std.specs.Prelude.{ℕ, Some, List, [], ◌∷◌, codes}
use Rattle.cx_source.specs.declared.source.Source.{Source}
use Rattle.cx_translate.specs.Expansion.{stmt}

-- a source with one alone, which has this operand
abbrev pub exec_source : List ℕ → Source
exec_source operand =
    record { items = record { line = 1; text = []; stmt = Some (stmt [] (codes "EXEC") operand) } ∷ [] }
