-- An operand as it is written, without the blanks between its words.
use Rattle.std.specs.Prelude.{ℕ, Bool, ◌&&◌, ◌==◌, if◌then◌else◌, List, [], ◌∷◌, ◌++◌}
use Rattle.std.specs.List.{flat_map}
use Rattle.cx_translate.specs.declared.pieces.Token.{Token}
use Rattle.cx_translate.specs.declared.pieces.Token.TheVariants.{Word, Argument, Broken}
use Rattle.cx_translate.specs.Pieces.{depth_after}

-- a piece as it is written
abbrev pub written : Token → List ℕ
written (Word text) = text
written (Argument text) = 40 ∷ (text ++ 41 ∷ [])
written (Broken text) = text

abbrev pub joined : List Token → List ℕ
joined pieces = flat_map written pieces

-- the characters except the blanks outside apostrophes and parentheses
abbrev pub unblanked_from : ℕ → List Bool → List ℕ → List ℕ
unblanked_from depth [] cs = []
unblanked_from depth marks [] = []
unblanked_from depth (is_outside ∷ marks) (c ∷ cs) =
    let rest = unblanked_from (depth_after depth is_outside c) marks cs in
    if is_outside && depth == 0 && c == 32 then rest else (c ∷ rest)
