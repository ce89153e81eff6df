-- Which characters of an operand lie outside apostrophes, and cutting an operand there (GC33-4010, "Expressions" and
-- "Terms").
use Rattle.std.specs.Prelude.{ℕ, ◌+◌, ◌-◌, Bool, false, ◌&&◌, ◌||◌, not, ◌==◌, if◌then◌else◌, List, [], ◌∷◌, ◌++◌, slice_index}
use Rattle.std.specs.Str.{byte}
use Rattle.cx_source.specs.Lines.{is_letter, is_symbol_name_character}
use Rattle.cx_source.specs.declared.marks.Scan.{Scan}
use Rattle.cx_source.specs.declared.marks.Delimiter.{Delimiter}
use Rattle.cx_source.specs.declared.marks.Delimiter.TheVariants.{TopComma, Blank, Parenthesis, Closing}

-- L' before a letter, where L begins a term: no name's character precedes it. `before` and `last` are the two
-- characters before the apostrophe.
unfoldable pub is_length_attribute : ℕ → ℕ → List ℕ → Bool
is_length_attribute before last after =
    last == byte "L" && not (is_symbol_name_character before) && is_letter (slice_index after 0)

-- Before an operand's first character: outside apostrophes and parentheses, as after a blank.
abbrev pub at_start : Scan
at_start = record { within = false; depth = 0; before = byte " "; last = byte " " }

-- An apostrophe ends the text that it is in, and outside of one it opens one, unless it is that of a length attribute.
-- (So of two in a text the second opens it again.)
unfoldable pub within_after : Scan → ℕ → List ℕ → Bool
within_after scan c after =
    if c == byte "'" then not scan.within && not (is_length_attribute scan.before scan.last after) else scan.within

-- The character c, with what follows it, lies outside apostrophes: neither in a text nor one of its apostrophes.
abbrev pub lies_outside : Scan → ℕ → List ℕ → Bool
lies_outside scan c after = not scan.within && not (within_after scan c after)

-- how many parentheses outside apostrophes are open after the character
unfoldable pub scan_depth_after : Scan → ℕ → List ℕ → ℕ
scan_depth_after scan c after =
    if lies_outside scan c after && c == byte "(" then scan.depth + 1
    else (if lies_outside scan c after && c == byte ")" then scan.depth - 1 else scan.depth)

-- after the character
abbrev pub scan_after : Scan → ℕ → List ℕ → Scan
scan_after scan c after =
    record { within = within_after scan c after; depth = scan_depth_after scan c after; before = scan.last; last = c }

-- for each character whether it lies outside apostrophes
abbrev pub outside_from : Scan → List ℕ → List Bool
outside_from scan [] = []
outside_from scan (c ∷ after) = lies_outside scan c after ∷ outside_from (scan_after scan c after) after

abbrev pub outside_apostrophes : List ℕ → List Bool
outside_apostrophes text = outside_from at_start text

-- where a text is cut: at commas in no parentheses, at blanks, at parentheses, at a closing parenthesis that none in
-- the text opens
abbrev pub is_mark : Delimiter → ℕ → ℕ → Bool
is_mark TopComma depth c = c == byte "," && depth == 0
is_mark Blank depth c = c == byte " "
is_mark Parenthesis depth c = c == byte "(" || c == byte ")"
is_mark Closing depth c = c == byte ")" && depth == 0

-- the place of the first mark outside apostrophes, or the length
abbrev pub first_from : Delimiter → Scan → List ℕ → ℕ
first_from mark scan [] = 0
first_from mark scan (c ∷ after) =
    if lies_outside scan c after && is_mark mark scan.depth c then 0
    else 1 + first_from mark (scan_after scan c after) after

abbrev pub first_mark : Delimiter → List ℕ → ℕ
first_mark mark text = first_from mark at_start text

-- the parts between the marks outside apostrophes; `part` is what there is of the first already
abbrev pub parts_from : Delimiter → Scan → List ℕ → List ℕ → List (List ℕ)
parts_from mark scan part [] = part ∷ []
parts_from mark scan part (c ∷ after) =
    if lies_outside scan c after && is_mark mark scan.depth c
    then part ∷ parts_from mark (scan_after scan c after) [] after
    else parts_from mark (scan_after scan c after) (part ++ c ∷ []) after

abbrev pub parts : Delimiter → List ℕ → List (List ℕ)
parts mark text = parts_from mark at_start [] text
