-- What is wrong with a source: the first faulty line, and which fault that line has (GC33-4010, "Assembler Language
-- Coding Conventions"; the number of lines and the order of the faults are this product's own).
use Rattle.std.specs.Prelude.{ℕ, ◌+◌, Bool, false, ◌&&◌, ◌||◌, ◌==◌, nat_lt, if◌then◌else◌, Option, Some, None, Result, Ok, Err, List, [], ◌∷◌, ◌++◌, length, map, is_none, slice_get, codes}
use Rattle.std.specs.List.{list_any}
use Rattle.std.specs.Option.{option_map_or, option_to_list}
use Rattle.std.specs.Str.Lines.{lines}
use Rattle.cx_ebcdic.specs.Characters.{code_of}
use Rattle.cx_source.specs.Lines.{columns, is_written, text_of, is_comment, is_symbol_name, entries_of}
use Rattle.cx_source.specs.Statements.{is_continued, is_last, up_to_end, items_from}
use Rattle.cx_source.specs.declared.source.Source.{Source}
use Rattle.cx_source.specs.declared.source.SourceFault.{SourceFault}
use Rattle.cx_source.specs.declared.source.SourceFault.TheVariants.{BadCharacter, BadName, BadContinuation, TooLong, NoEnd, Memory}

-- a fault's name
abbrev pub fault_name : SourceFault → List ℕ
fault_name (TooLong number) = codes "TooLong"
fault_name (BadCharacter number) = codes "BadCharacter"
fault_name (BadContinuation number) = codes "BadContinuation"
fault_name (BadName number) = codes "BadName"
fault_name (NoEnd number) = codes "NoEnd"
fault_name Memory = codes "Memory"

-- The fault of the line with this number, counted from 1, the first that applies: more than 80 columns, or past the
-- 10,000th line; a character without a code in columns 1 to 72; a line that continues a statement and isn't blank in
-- columns 1 to 15; a line that begins one with something other than a name in column 1.
unfoldable pub source_fault : Bool → ℕ → List ℕ → Option SourceFault
source_fault continues number line =
    let text = text_of line in let name = (entries_of text).name in
    if nat_lt 80 (length line) || nat_lt 10000 number then Some (TooLong number)
    else (if list_any (λ c. is_none (code_of c)) (columns 1 72 line) then Some (BadCharacter number)
    else (if continues && list_any is_written (columns 1 15 line) then Some (BadContinuation number)
    else (if continues || is_comment text || length name == 0 || is_symbol_name name then None
    else Some (BadName number))))

-- the source whose lines, up to END's, have these texts
abbrev pub source_from : List (List ℕ) → Source
source_from texts = record { items = items_from false 1 texts }

-- whether a line with this fault continues the statement before it: one that continues it wrongly begins anew
abbrev pub goes_on : Bool → Option SourceFault → Bool
goes_on continues (Some (BadContinuation number)) = false
goes_on continues fault = continues

-- the faults of all lines up to END's, in their order; without END, last that of the line after them
abbrev pub line_faults : Bool → ℕ → List (List ℕ) → List SourceFault
line_faults continues number [] = NoEnd number ∷ []
line_faults continues number (line ∷ more) =
    let fault = source_fault continues number line in let joined = goes_on continues fault in
    option_to_list fault
    ++ (if is_last joined (text_of line) then []
    else line_faults (is_continued joined (text_of line)) (number + 1) more)

-- a source, or the faults that it has
abbrev pub unless_faulty : {F : Type 0} → List F → Source → Result Source (List F)
unless_faulty [] source = Ok source
unless_faulty (fault ∷ more) source = Err (fault ∷ more)

-- the source that lines make, or all its faults
unfoldable pub source_or_faults : List (List ℕ) → Result Source (List SourceFault)
source_or_faults all = unless_faulty (line_faults false 1 all) (source_from (up_to_end false (map text_of all)))

-- the source that lines make, or its first fault
unfoldable pub source_in : List (List ℕ) → Result Source SourceFault
source_in all =
    option_map_or Err (slice_get (line_faults false 1 all) 0) (Ok (source_from (up_to_end false (map text_of all))))

-- The source that bytes make. A line ends with LF, and a CR before it is dropped; the last line needs none.
unfoldable pub source_of : List ℕ → Result Source SourceFault
source_of bytes = source_in (lines bytes)
