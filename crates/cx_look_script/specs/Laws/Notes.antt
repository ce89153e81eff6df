-- What FAULTS writes of a source that is accepted, and of one that is refused (own).
use Rattle.std.specs.Prelude.{◌≡◌, ℕ, Bool, Some, None, [], ◌∷◌, ◌++◌, codes}
use Rattle.std.specs.List.{flat_map}
use Rattle.std.specs.Result.{result_err}
use Rattle.cx_base.specs.Texts.{shown_name}
use Rattle.cx_asm_build.specs.Prepared.{prepared_of}
use Rattle.cx_asm_build.specs.declared.faults.PrepareFault.TheVariants.{At}
use Rattle.cx_asm_build.specs.declared.faults.SourceKind.{SourceKind}
use Rattle.cx_look.specs.declared.look.SourceLines.{SourceLines}
use Rattle.cx_look_lines.specs.Words.{look_line}
use Rattle.cx_look_faults.specs.Kept.{kept_faults}
use Rattle.cx_look_faults.specs.Laws.First.{Has}
use Rattle.cx_look_faults.specs.Marks.{marks_of}
use Rattle.cx_look_faults.specs.Notes.{notes_of}
use Rattle.cx_look_script.specs.Faults.{mark_line, faults_text, note_line}

-- NONE, and then its notes
abbrev pub NotesRefuseNothing : Type 0
NotesRefuseNothing =
    (listing disassembly : Bool) (source : SourceLines)
    → result_err (prepared_of listing disassembly source.lines) ≡ None
    → faults_text source
    ≡ look_line (codes "FAULTS" ∷ shown_name source.name ∷ codes "NONE" ∷ [])
    ++ flat_map (note_line source) (notes_of source.lines [])

-- instead of NONE a line for each faulty line, among which is the one that it is refused for, and then the notes
pub record WritesFault (source : SourceLines) (number : ℕ) (kind : SourceKind) : Type 0 where
  pub has : Has (At number kind) (kept_faults source.lines)
  pub written : faults_text source
      ≡ flat_map (mark_line source) (marks_of source.lines (kept_faults source.lines))
      ++ flat_map (note_line source) (notes_of source.lines (kept_faults source.lines))

abbrev pub RefusalsAreWritten : Type 0
RefusalsAreWritten =
    (listing disassembly : Bool) (source : SourceLines) (number : ℕ) (kind : SourceKind)
    → result_err (prepared_of listing disassembly source.lines) ≡ Some (At number kind)
    → WritesFault source number kind
