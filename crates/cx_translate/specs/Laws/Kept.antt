-- What stays of a source: each line that is no part of an EXEC statement, in the same order.
use Rattle.std.specs.Prelude.{◌≡◌, ◌⊎◌, ⊤, ◌||◌, Bool, if◌then◌else◌, List, [], ◌∷◌}
use Rattle.cx_source.specs.declared.source.Item.{Item}
use Rattle.cx_translate.specs.Sections.{begins_exec}
use Rattle.cx_translate.specs.Translation.{continues_exec, is_dropped}

-- the lines that neither begin an EXEC statement nor continue one
abbrev pub kept : Bool → List Item → List Item
kept continues [] = []
kept continues (item ∷ rest) =
    if is_dropped continues item || begins_exec item then kept (continues_exec continues item) rest
    else item ∷ kept (continues_exec continues item) rest

-- lines are among others, in the same order
abbrev pub AreAmong : List Item → List Item → Type 0
AreAmong [] others = ⊤
AreAmong (item ∷ rest) [] = ⊥
AreAmong (item ∷ rest) (other ∷ others) = ((item ≡ other) × AreAmong rest others) ⊎ AreAmong (item ∷ rest) others
