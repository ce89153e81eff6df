-- What is kept of the sources that programs were defined from, and a statement as it is shown by its line (own).
use Rattle.std.specs.Prelude.{ℕ, ◌-◌, Option, option_and_then, option_map, unwrap_or, if◌then◌else◌, is_some, List, [], ◌++◌, codes, map, slice_get, take}
use Rattle.std.specs.Map.{lookup}
use Rattle.std.specs.Option.{option_map_or}
use Rattle.std.specs.Str.{byte}
use Rattle.indexmap.specs.IndexMap.{insert_entry}
use Rattle.cx_ebcdic.specs.Characters.{code_of}
use Rattle.cx_ebcdic.specs.Names.{is_name}
use Rattle.cx_source.specs.Lines.{skip_blanks, trim_blanks}
use Rattle.cx_base.specs.Digits.{digits}
use Rattle.cx_look_symbols.specs.Lines.{SourcePlaces, line_in}
use Rattle.cx_look_symbols.specs.Statements.{statement_places}
use Rattle.cx_look_symbols.specs.declared.places.Spot.{Spot}

-- of each program that a source defined the source's lines, and where its statements are
pub record Sources : Type 0 where
  pub lines : List (List ℕ × List (List ℕ))
  pub places : SourcePlaces

-- the lines of a program's source; none of a program that no source defined
abbrev pub source_lines : Sources → List ℕ → List (List ℕ)
source_lines sources name = unwrap_or (lookup (is_name name) sources.lines) []

abbrev pub with_source_lines : Sources → List ℕ → List (List ℕ) → Sources
with_source_lines sources name lines =
    record {
      lines = insert_entry is_name sources.lines name lines;
      places = insert_entry is_name sources.places name (statement_places lines);
    }

-- ---- a statement by its line
-- Columns 1 to 71 of a line, without blanks at either end; a period for a byte that has no character.
abbrev pub shown_character : ℕ → ℕ
shown_character c = if is_some (code_of c) then c else byte "."

unfoldable pub statement_text : List ℕ → List ℕ
statement_text line = map shown_character (trim_blanks (skip_blanks (take 71 line)))

-- the text of the line of a number, counted from 1
abbrev pub text_on : List (List ℕ) → ℕ → List ℕ
text_on lines n = statement_text (unwrap_or (slice_get lines (n - 1)) [])

-- the line's number in five digits, as in the listing, and its text
abbrev pub numbered_line : List (List ℕ) → ℕ → List ℕ
numbered_line lines n = digits 10 5 n ++ codes " " ++ text_on lines n

-- that of the statement that has a byte; of a statement on several lines, and of those made from an EXEC, the first
-- line
unfoldable pub statement_at : Sources → Option Spot → Option (List ℕ)
statement_at sources spot =
    option_and_then
    (λ it. option_map (numbered_line (source_lines sources it.program))
    (line_in sources.places it.program it.offset)) spot

-- after words that lead to it; nothing where there is none
abbrev pub led_by : List ℕ → Option (List ℕ) → List ℕ
led_by words statement = option_map_or (λ it. words ++ it) statement []
