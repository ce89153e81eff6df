-- What the lines of looks are made of (own).
use Rattle.std.specs.Prelude.{ℕ, Bool, false, ◌&&◌, ◌==◌, not, List, [], ◌∷◌, ◌++◌, length, codes, if◌then◌else◌}
use Rattle.std.specs.List.{filter, flat_map, list_all}
use Rattle.std.specs.Option.{option_map_or}
use Rattle.std.specs.Str.{byte}
use Rattle.cx_ebcdic.specs.Characters.{code_of, shown_as}
use Rattle.cx_base.specs.Digits.{hex_digits}
use Rattle.cx_base.specs.Texts.{shown_text, trim}

-- ---- lines
-- what a look has to say, a line after the other
abbrev pub Lines : Type 0
Lines = List (List ℕ)

-- words, each after a blank
abbrev pub with_blanks : List (List ℕ) → List ℕ
with_blanks words = flat_map (λ word. byte " " ∷ word) words

-- words, a blank between one and the next
abbrev pub joined_line : List (List ℕ) → List ℕ
joined_line [] = []
joined_line (first ∷ words) = first ++ with_blanks words

-- one line
abbrev pub look_line : List (List ℕ) → Lines
look_line words = joined_line words ∷ []

-- the line of a look that finds nothing
abbrev pub none_line : List ℕ → Lines
none_line word = look_line (word ∷ codes "NONE" ∷ [])

abbrev pub or_none : List ℕ → Lines → Lines
or_none word lines = if length lines == 0 then none_line word else lines

-- as it is written: `> `, the line, from which each LF is left out, and LF
abbrev pub is_in_line : ℕ → Bool
is_in_line c = not (c == byte "\n")

unfoldable pub marked : Lines → List ℕ
marked lines = flat_map (λ line. codes "> " ++ filter is_in_line line ++ codes "\n") lines

-- ---- bytes and names
-- a byte that is written between apostrophes as itself: it is the code of a character, since one that isn't is shown by
-- the code of one that is; and it is no apostrophe
abbrev pub is_plain : ℕ → Bool
is_plain b = option_map_or (λ code. code == b) (code_of (shown_as b)) false && not (shown_as b == byte "'")

abbrev pub in_apostrophes : List ℕ → List ℕ
in_apostrophes text = codes "'" ++ text ++ codes "'"

-- bytes in hexadecimal: X'..'
abbrev pub in_hexadecimal : List ℕ → List ℕ
in_hexadecimal bytes = codes "X" ++ in_apostrophes (hex_digits bytes)

-- bytes as characters between apostrophes; in hexadecimal where one of them has no character, or is an apostrophe
unfoldable pub written_bytes : List ℕ → List ℕ
written_bytes bytes = if list_all is_plain bytes then in_apostrophes (shown_text bytes) else in_hexadecimal bytes

-- a name: as bytes, without the blanks that fill it
unfoldable pub written_name : List ℕ → List ℕ
written_name name = if list_all is_plain name then in_apostrophes (trim (shown_text name)) else in_hexadecimal name
