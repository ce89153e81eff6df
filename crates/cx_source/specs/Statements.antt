-- A source as the list of its lines: which lines are statements by themselves, which continue one, and the statements
-- (GC33-4010, "Assembler Language Coding Conventions"). A line's text is its columns 1 to 72 without the blanks at
-- their end.
use Rattle.std.specs.Prelude.{ℕ, ◌+◌, Bool, true, false, ◌&&◌, ◌||◌, not, if◌then◌else◌, Some, None, List, [], ◌∷◌, ◌++◌, take, codes}
use Rattle.std.specs.Str.{bytes_eq}
use Rattle.cx_source.specs.Lines.{trim_blanks, skip_blanks, columns, is_marked, is_comment, entries_of}
use Rattle.cx_source.specs.Marks.{first_mark}
use Rattle.cx_source.specs.declared.marks.Delimiter.TheVariants.{Blank}
use Rattle.cx_source.specs.declared.source.Stmt.{Stmt}
use Rattle.cx_source.specs.declared.source.Item.{Item}

-- Each of these takes first whether the line before is continued.

-- The next line continues the statement that this line begins or continues: column 72 isn't blank. A comment isn't
-- continued.
unfoldable pub is_continued : Bool → List ℕ → Bool
is_continued continues text = is_marked text && (continues || not (is_comment text))

-- The source ends with this line: it begins END's statement, which isn't continued.
unfoldable pub is_last : Bool → List ℕ → Bool
is_last continues text = not continues && not (is_comment text) && bytes_eq (entries_of text).operation (codes "END")

-- the lines up to END's; those after it aren't read
abbrev pub up_to_end : Bool → List (List ℕ) → List (List ℕ)
up_to_end continues [] = []
up_to_end continues (text ∷ more) =
    text ∷ (if is_last continues text then [] else up_to_end (is_continued continues text) more)

-- What is written on the lines that continue a line: columns 16 to 71, line by line, as long as column 72 isn't blank
-- on the line before.
abbrev pub written_on : Bool → List (List ℕ) → List ℕ
written_on false more = []
written_on true [] = []
written_on true (text ∷ more) = columns 16 71 text ++ written_on (is_marked text) more

-- The operand among what is written after the operation: of EXEC all of it, else up to the first blank outside
-- apostrophes.
unfoldable pub operand_written : List ℕ → List ℕ → List ℕ
operand_written operation written =
    let text = trim_blanks (skip_blanks written) in
    if bytes_eq operation (codes "EXEC") then text else take (first_mark Blank text) text

-- The statement that begins on a line, with the lines after it. Name and operation are on its first line.
unfoldable pub statement_beginning : List ℕ → List (List ℕ) → Stmt
statement_beginning text more =
    let entries = entries_of text in
    record {
      name = entries.name;
      operation = entries.operation;
      operand = operand_written entries.operation (entries.after ++ written_on (is_marked text) more);
    }

-- The lines with their numbers and statements. A statement begins on each line that neither is a comment nor continues
-- one.
abbrev pub items_from : Bool → ℕ → List (List ℕ) → List Item
items_from continues number [] = []
items_from continues number (text ∷ more) =
    let stmt = if continues || is_comment text then None else Some (statement_beginning text more) in
    record { line = number; text = text; stmt = stmt } ∷ items_from (is_continued continues text) (number + 1) more
