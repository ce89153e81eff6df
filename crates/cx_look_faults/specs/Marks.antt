-- Where on its line the part is that is at fault (own; the columns are those of GC33-4010, "Assembler Language Coding
-- Conventions").
use Rattle.std.specs.Prelude.{ℕ, ◌+◌, ◌-◌, Bool, ◌&&◌, not, ◌==◌, count_by, nat_lt, if◌then◌else◌, is_none, Option, Some, None, option_and_then, option_map, List, [], ◌++◌, codes, drop, length, map, slice_get, slice_index, take, unwrap_or}
use Rattle.std.specs.List.{enumerate_from, find, flat_map, position_or_len, range_with_len}
use Rattle.std.specs.Option.{option_map_or}
use Rattle.std.specs.Str.{bytes_eq}
use Rattle.cx_ebcdic.specs.Characters.{code_of}
use Rattle.cx_source.specs.Lines.{columns, is_blank, is_symbol_name_character, is_written, trim_blanks}
use Rattle.cx_source.specs.Mended.{source_read}
use Rattle.cx_source.specs.declared.source.Item.{Item}
use Rattle.cx_source.specs.declared.source.Source.{Source}
use Rattle.cx_source.specs.declared.source.Stmt.{Stmt}
use Rattle.cx_translate.specs.Translation.{mended_source}
use Rattle.cx_asm_pass2.specs.Statements.{statements_of}
use Rattle.cx_asm_pass2.specs.Whole.{whole_of}
use Rattle.cx_asm_build.specs.declared.faults.SourceKind.{SourceKind}
use Rattle.cx_asm_build.specs.declared.faults.SourceKind.TheVariants as kind
use Rattle.cx_asm_build.specs.declared.faults.SourceKind.TheVariants.{DuplicateSymbol}
use Rattle.cx_look_faults.specs.Commands.{missing, word_at_fault}
use Rattle.cx_look_faults.specs.Faults.{continuations, is_same, kind_at, kinds_of}
use Rattle.cx_look_faults.specs.Judging.{has_exec_fault}
use Rattle.cx_look_faults.specs.Operands.{operand_parts_in}
use Rattle.cx_look_faults.specs.Spans.{is_one_of, span, span_text}
use Rattle.cx_look_faults.specs.declared.faults.FaultyLine.{FaultyLine}
use Rattle.cx_look_faults.specs.declared.marks.Mark.{Mark}
use Rattle.cx_look_faults.specs.declared.operands.OperandPart.{OperandPart}
use Rattle.cx_look_faults.specs.declared.positions.Position.{Position}
use Rattle.cx_look_faults.specs.declared.positions.Spot.{Spot}
use Rattle.cx_look_faults.specs.declared.spans.Span.{Span}

abbrev pub spot : ℕ → ℕ → ℕ → Spot
spot line column length = record { line = line; column = column; length = length }

-- ---- statements
-- the characters of a line from a column to column 71, each with where it stands
unfoldable pub positions_on : ℕ → Item → List Position
positions_on column item =
    map (λ c. record { line = item.line; column = c.0; byte = c.1 })
    (enumerate_from column (columns column 71 item.text))

-- from the first that isn't blank on
abbrev pub skip_unwritten : List Position → List Position
skip_unwritten all = drop (position_or_len (λ (p : Position). is_written p.byte) all) all

-- characters, as far as they are on the first one's line
abbrev pub spot_at : List Position → Spot → Spot
spot_at here otherwise =
    let on = λ (first : Position). count_by (λ (p : Position). p.line == first.line) here in
    option_map_or (λ first. spot first.line first.column (on first)) (slice_get here 0) otherwise

-- A part of the operand, or without one the name; of what has no character the operation, or else the name.
unfoldable pub part_spot : List Item → Item → Stmt → Option Span → Spot
part_spot items item stmt part =
    let all = positions_on 1 item ++ flat_map (positions_on 16) (continuations items item.line) in
    let name = take (length stmt.name) all in let after = skip_unwritten (drop (length stmt.name) all) in
    let operand = skip_unwritten (drop (length stmt.operation) after) in
    let here = option_map_or (λ (it : Span). drop it.start (take it.end operand)) part name in
    spot_at here (spot_at (take (length stmt.operation) after) (spot_at name (spot item.line 1 0)))

-- ---- statements of the assembler
-- A text stands in an argument: after a parenthesis, comma or sign, and before no character of a name.
abbrev pub stands_at : List ℕ → List ℕ → ℕ → Bool
stands_at text operand at =
    let rest = drop at operand in
    is_one_of (codes "(),+-") (slice_index operand (at - 1)) && bytes_eq (take (length text) rest) text
    && not (is_symbol_name_character (slice_index rest (length text)))

-- the part of a made statement in the operand that it was made of
abbrev pub part_in : List ℕ → OperandPart → Option Span
part_in operand found =
    let text = span_text found.part found.operand in
    let places = range_with_len 1 (length operand - 1) in
    if bytes_eq operand found.operand then Some found.part
    else option_map (λ at. span at (at + length text)) (find (stands_at text operand) places)

abbrev pub part_found : List OperandPart → ℕ → List ℕ → Option Span
part_found parts line operand = option_and_then (part_in operand) (find (λ found. found.line == line) parts)

-- ---- faults
-- The part of a statement that is at fault: of an EXEC with a fault of its own a word, of what is defined again the
-- name, and of others the part that has the fault.
abbrev pub stmt_spot : List Item → List OperandPart → SourceKind → Item → Stmt → Spot
stmt_spot items parts kind item stmt =
    let word = word_at_fault kind stmt.operand in let found = part_found parts item.line stmt.operand in
    let part = if has_exec_fault kind stmt.operand then word else found in
    part_spot items item stmt (if is_same kind DuplicateSymbol then None else Some (unwrap_or part (span 0 0)))

-- Of a line: the character without a code; what begins in column 1; what isn't blank in columns 1 to 15; what is past
-- column 80, or all of a line that comes after too many; `/*`. Of others the part of the statement, or the beginning.
abbrev pub spot_by : List Item → List OperandPart → List ℕ → ℕ → SourceKind → Spot
spot_by items parts line number kind.BadCharacter =
    spot number (position_or_len (λ c. is_none (code_of c)) line + 1) 1
spot_by items parts line number kind.BadName = spot number 1 (position_or_len is_blank line)
spot_by items parts line number kind.BadContinuation =
    let at = position_or_len is_written line in spot number (at + 1) (length (trim_blanks (columns 1 15 line)) - at)
spot_by items parts line number kind.TooLong =
    let from = if nat_lt 80 (length line) then 80 else 0 in spot number (from + 1) (length line - from)
spot_by items parts line number kind.NoEnd = spot number 1 2
spot_by items parts line number kind =
    let of_item = λ (it : Item). option_map_or (stmt_spot items parts kind it) it.stmt (spot number 1 0) in
    option_map_or of_item (slice_get items (number - 1)) (spot number 1 0)

-- what is missing
abbrev pub missing_by_kind : SourceKind → Option Item → List ℕ
missing_by_kind kind.MissingOption item =
    option_map_or (λ (s : Stmt). missing s.operand) (option_and_then (λ (it : Item). it.stmt) item) []
missing_by_kind kind item = []

unfoldable pub mark_of : List (List ℕ) → List Item → List OperandPart → FaultyLine → Mark
mark_of lines items parts fault = record {
  kind = fault.kind;
  spot = spot_by items parts (unwrap_or (slice_get lines (fault.line - 1)) []) fault.line fault.kind;
  missing = missing_by_kind fault.kind (slice_get items (fault.line - 1));
}

-- where the part at fault is of each faulty line of the source that lines make
abbrev pub parts_at_fault : Source → List FaultyLine → List OperandPart
parts_at_fault made faults = operand_parts_in (whole_of made) (kind_at (kinds_of faults)) (statements_of made)

unfoldable pub marks_of : List (List ℕ) → List FaultyLine → List Mark
marks_of lines faults =
    let read = source_read lines in map (mark_of lines read.items (parts_at_fault (mended_source read) faults)) faults
