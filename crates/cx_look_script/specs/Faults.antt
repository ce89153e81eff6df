-- FAULTS: the faulty lines of a source in a script (own).
use Rattle.std.specs.Prelude.{ℕ, ◌+◌, ◌-◌, ◌==◌, if◌then◌else◌, List, [], ◌∷◌, ◌++◌, codes, drop, length, map, slice_get, take, unwrap_or}
use Rattle.std.specs.Fmt.{decimal}
use Rattle.std.specs.List.{flat_map}
use Rattle.cx_base.specs.Texts.{shown_name}
use Rattle.cx_asm_build.specs.Kinds.{kind_name}
use Rattle.cx_script_blocks.specs.Shown.{printable_byte}
use Rattle.cx_look.specs.declared.look.SourceLines.{SourceLines}
use Rattle.cx_look_lines.specs.Words.{Lines, look_line}
use Rattle.cx_look_faults.specs.Kept.{kept_faults}
use Rattle.cx_look_faults.specs.Marks.{marks_of}
use Rattle.cx_look_faults.specs.Notes.{notes_of}
use Rattle.cx_look_faults.specs.declared.faults.FaultyLine.{FaultyLine}
use Rattle.cx_look_faults.specs.declared.marks.Mark.{Mark}
use Rattle.cx_look_faults.specs.declared.notes.Note.{Note}
use Rattle.cx_look_faults.specs.declared.positions.Spot.{Spot}

-- A source's line by its number, as it is in the script; after the last comes the block's end.
abbrev pub source_text_at : List (List ℕ) → ℕ → List ℕ
source_text_at lines number = unwrap_or (slice_get lines (number - 1)) (codes "/*")

-- with >> and << round a part
abbrev pub with_marks : Spot → List ℕ → List ℕ
with_marks spot text =
    let from = drop (spot.column - 1) text in
    take (spot.column - 1) text ++ codes ">>" ++ take spot.length from ++ codes "<<" ++ drop spot.length from

-- where a part is in the script: line and column
abbrev pub line_and_column : SourceLines → Spot → List ℕ
line_and_column source spot = decimal (source.first + spot.line) ++ codes ":" ++ decimal spot.column

-- the fault's name, and the names of what is missing
abbrev pub fault_word : Mark → List ℕ
fault_word mark = kind_name mark.kind ++ (if length mark.missing == 0 then [] else codes " " ++ mark.missing)

-- a faulty line: the place of the part that is at fault, the fault, and the part's line
abbrev pub mark_line : SourceLines → Mark → Lines
mark_line source mark =
    let text = map printable_byte (source_text_at source.lines mark.spot.line) in
    look_line (line_and_column source mark.spot ∷ fault_word mark ∷ with_marks mark.spot text ∷ [])

-- a line for each of some faulty lines, or the words that there is none
abbrev pub fault_lines : SourceLines → List FaultyLine → List Mark → Lines
fault_lines source [] marks = look_line (codes "FAULTS" ∷ shown_name source.name ∷ codes "NONE" ∷ [])
fault_lines source (fault ∷ faults) marks = flat_map (mark_line source) marks

-- a note: the place of what it is about, and what it says
abbrev pub note_line : SourceLines → Note → Lines
note_line source note = look_line (line_and_column source note.spot ∷ codes "NOTE" ∷ map printable_byte note.text ∷ [])

-- What is written for the lines of a source: the faulty lines, and then the notes.
unfoldable pub faults_text : SourceLines → Lines
faults_text source =
    let faults = kept_faults source.lines in
    fault_lines source faults (marks_of source.lines faults)
    ++ flat_map (note_line source) (notes_of source.lines faults)
