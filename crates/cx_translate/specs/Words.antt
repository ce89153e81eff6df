-- The words of an EXEC's operand, each with what follows it as its argument (SC33-0077, "EXEC CICS" command format).
use Rattle.std.specs.Prelude.{ℕ, List, [], ◌∷◌, ◌++◌}
use Rattle.cx_translate.specs.declared.pieces.Token.{Token}
use Rattle.cx_translate.specs.declared.pieces.Token.TheVariants as piece
use Rattle.cx_translate.specs.declared.words.Argument.{Argument}
use Rattle.cx_translate.specs.declared.words.Argument.TheVariants.{Absent, Given, Bad}
use Rattle.cx_translate.specs.declared.words.Word.{Word}
use Rattle.cx_translate.specs.Pieces.{pieces_of}

-- What follows a word, up to the next: nothing, one argument, or anything else, which is bad.
unfoldable pub argument_after : List Token → Argument
argument_after [] = Absent
argument_after (piece.Word name ∷ rest) = Absent
argument_after (piece.Argument text ∷ []) = Given text
argument_after (piece.Argument text ∷ piece.Word name ∷ rest) = Given text
argument_after pieces = Bad

abbrev pub words_in : List Token → List Word
words_in [] = []
words_in (piece.Word name ∷ rest) = record { name = name; argument = argument_after rest } ∷ words_in rest
words_in (other ∷ rest) = words_in rest

-- what precedes the first word is given to an empty one
abbrev pub nameless : List Token → List Word
nameless [] = []
nameless (piece.Word name ∷ rest) = []
nameless pieces = record { name = []; argument = Bad } ∷ []

-- the words of an operand, in order
unfoldable pub words_of : List ℕ → List Word
words_of operand = nameless (pieces_of operand) ++ words_in (pieces_of operand)
