-- The operand of EXEC as its pieces (Application Programmer's Reference Manual, SC33-0077, "EXEC CICS" command format):
-- words, each perhaps with an argument in parentheses after it; a blank between them is allowed, and needed only
-- between two words. Which parentheses and blanks count: those outside apostrophes.
use Rattle.std.specs.Prelude.{ℕ, ◌+◌, ◌-◌, Bool, ◌&&◌, ◌||◌, ◌==◌, if◌then◌else◌, List, [], ◌∷◌, ◌++◌, length}
use Rattle.std.specs.Str.{byte}
use Rattle.cx_source.specs.Marks.{outside_apostrophes}
use Rattle.cx_translate.specs.declared.pieces.Token.{Token}
use Rattle.cx_translate.specs.declared.pieces.Token.TheVariants.{Word, Argument, Broken}

-- Each of these takes how many parentheses are open before a character, and whether it lies outside apostrophes.

-- how many are open after it
unfoldable pub depth_after : ℕ → Bool → ℕ → ℕ
depth_after depth is_outside c =
    if is_outside && c == byte "(" then depth + 1 else (if is_outside && c == byte ")" then depth - 1 else depth)

-- A piece ends before it: outside parentheses a word, at a blank or a parenthesis; in parentheses an argument, where
-- they close.
unfoldable pub is_cut : ℕ → Bool → ℕ → Bool
is_cut depth is_outside c =
    is_outside
    && (if depth == 0 then c == byte " " || c == byte "(" || c == byte ")" else (depth == 1 && c == byte ")"))

-- a word, where there is one
abbrev pub word : List ℕ → List Token
word part = if length part == 0 then [] else Word part ∷ []

-- the pieces that end at the character c; `part` is what precedes it. A `)` that closes nothing is a piece of its own.
unfoldable pub end_of_pieces : ℕ → List ℕ → ℕ → List Token
end_of_pieces depth part c =
    if depth == 0 then word part ++ (if c == byte ")" then Broken (byte ")" ∷ []) ∷ [] else []) else Argument part ∷ []

-- what is left at the end: a word, or an argument that isn't closed, with its parenthesis
unfoldable pub last_of : ℕ → List ℕ → List Token
last_of depth part = if depth == 0 then word part else Broken (byte "(" ∷ part) ∷ []

abbrev pub pieces_from : ℕ → List ℕ → List Bool → List ℕ → List Token
pieces_from depth part [] cs = last_of depth part
pieces_from depth part marks [] = last_of depth part
pieces_from depth part (is_outside ∷ marks) (c ∷ cs) =
    if is_cut depth is_outside c
    then end_of_pieces depth part c ++ pieces_from (depth_after depth is_outside c) [] marks cs
    else pieces_from (depth_after depth is_outside c) (part ++ c ∷ []) marks cs

-- the pieces of an operand, in order
unfoldable pub pieces_of : List ℕ → List Token
pieces_of text = pieces_from 0 [] (outside_apostrophes text) text
