-- What the lines of a text are, whatever the rule by which a part is broken (SC33-0077, "SEND TEXT").
use Rattle.std.specs.Prelude.{◌≡◌, ℕ, ◌<◌, ◌≤◌, ◌⊎◌, List, [], ◌∷◌, ◌++◌, length}
use Rattle.cx_service.specs.Lines.{blank, columns, parts_of, AreLinesOf}

-- a line broken off a part, and the rest: 80 bytes; or 1 to 80 before a blank, which is dropped
abbrev pub IsBrokenOff : List ℕ → List ℕ → List ℕ → Type 0
IsBrokenOff part line rest =
    ((part ≡ line ++ rest) × (length line ≡ columns))
    ⊎ ((part ≡ line ++ blank ∷ rest) × (0 < length line) × (length line ≤ columns))

-- lines that are a part again when they are joined, with the blanks that were dropped
unfoldable pub JoinTo : List ℕ → List (List ℕ) → Type 0
JoinTo part [] = ⊥
JoinTo part (line ∷ []) = line ≡ part
JoinTo part (line ∷ next ∷ lines) = (rest : List ℕ) × IsBrokenOff part line rest × JoinTo rest (next ∷ lines)

-- the same of several parts, one after another
unfoldable pub AllJoinTo : List (List ℕ) → List (List ℕ) → Type 0
AllJoinTo [] lines = lines ≡ []
AllJoinTo (part ∷ parts) lines =
    (own : List (List ℕ)) × (others : List (List ℕ)) × (lines ≡ own ++ others) × JoinTo part own
    × AllJoinTo parts others

-- the lines of a text, joined, are its parts in their order
abbrev pub LinesJoin : Type 0
LinesJoin = (text : List ℕ) (lines : List (List ℕ)) → AreLinesOf text lines → AllJoinTo (parts_of text) lines
