-- The lines of a source (OS/VS-DOS/VSE-VM/370 Assembler Language, GC33-4010, "Assembler Language Coding Conventions").
use Rattle.std.specs.Prelude.{ℕ, ◌-◌, Bool, ◌&&◌, ◌||◌, not, ◌==◌, nat_le, List, length, take, drop, slice_index}
use Rattle.std.specs.List.{list_all, list_any, suffix_len, position_or_len, before_first, after_first}
use Rattle.std.specs.Str.{byte}

-- a blank
abbrev pub is_blank : ℕ → Bool
is_blank c = c == byte " "

-- any other character
abbrev pub is_written : ℕ → Bool
is_written c = not (is_blank c)

-- without the blanks at its end
abbrev pub trim_blanks : List ℕ → List ℕ
trim_blanks text = take (length text - suffix_len is_blank text) text

-- without the blanks at its beginning
abbrev pub skip_blanks : List ℕ → List ℕ
skip_blanks text = drop (position_or_len is_written text) text

-- Columns are counted from 1; those past a line's end are blank.
abbrev pub columns : ℕ → ℕ → List ℕ → List ℕ
columns first last text = drop (first - 1) (take last text)

-- A line's text: columns 1 to 72, without the blanks at their end.
unfoldable pub text_of : List ℕ → List ℕ
text_of line = trim_blanks (columns 1 72 line)

-- The continuation column, 72, isn't blank.
unfoldable pub is_marked : List ℕ → Bool
is_marked text = list_any is_written (columns 72 72 text)

-- A comment: an asterisk in column 1, or blank to column 72.
unfoldable pub is_comment : List ℕ → Bool
is_comment text = length text == 0 || slice_index text 0 == byte "*"

-- One of A to Z, @ # $.
unfoldable pub is_letter : ℕ → Bool
is_letter c = (nat_le (byte "A") c && nat_le c (byte "Z")) || (c == byte "@") || (c == byte "#") || (c == byte "$")

-- One of A to Z, @ # $, 0 to 9.
unfoldable pub is_symbol_name_character : ℕ → Bool
is_symbol_name_character c = is_letter c || (nat_le (byte "0") c && nat_le c (byte "9"))

-- A name: 1 to 8 of these, the first a letter.
unfoldable pub is_symbol_name : List ℕ → Bool
is_symbol_name text = is_letter (slice_index text 0) && list_all is_symbol_name_character text && nat_le (length text) 8

-- The entries of a statement's first line: the name from column 1 to the first blank, the operation, and what follows
-- it to column 71.
pub record Entries : Type 0 where
  pub name : List ℕ
  pub operation : List ℕ
  pub after : List ℕ

unfoldable pub entries_of : List ℕ → Entries
entries_of text =
    let body = columns 1 71 text in
    let second = skip_blanks (after_first is_blank body) in
    record {
      name = before_first is_blank body;
      operation = before_first is_blank second;
      after = after_first is_blank second;
    }
