-- Of a source that is accepted FAULTS writes NONE, and of one that is refused what it is refused for.
use Rattle.std.proofs.Common.{◌≡◌, ℕ, Bool, Option, List, [], ◌∷◌, ◌++◌, refl, ap, subst}
use Rattle.std.specs.List.{flat_map}
use Rattle.std.specs.Result.{result_err}
use Rattle.cx_asm_build.specs.Prepared.{prepared_of}
use Rattle.cx_asm_build.specs.declared.faults.PrepareFault.{PrepareFault}
use Rattle.cx_asm_build.specs.declared.faults.PrepareFault.TheVariants.{At}
use Rattle.cx_look.specs.declared.look.SourceLines.{SourceLines}
use Rattle.cx_look_lines.specs.Words.{Lines}
use Rattle.cx_look_faults.specs.Kept.{kept_faults}
use Rattle.cx_look_faults.specs.Laws.First.{Has, IsAmong}
use Rattle.cx_look_faults.specs.Marks.{marks_of}
use Rattle.cx_look_faults.specs.Notes.{notes_of}
use Rattle.cx_look_faults.specs.declared.faults.FaultyLine.{FaultyLine}
use Rattle.cx_look_script.specs.Faults.{mark_line, fault_lines, faults_text, note_line}
use Rattle.cx_look_script.specs.Laws.Notes.{NotesRefuseNothing, RefusalsAreWritten}

abbrev Among : Type 0
Among = (listing disassembly : Bool) (all : List (List ℕ)) → IsAmong (result_err (prepared_of listing disassembly all)) (kept_faults all)

pub notes_refuse_nothing : Among → NotesRefuseNothing
unfolding faults_text
notes_refuse_nothing among listing disassembly source accepted =
    let none : kept_faults source.lines ≡ [] =
    subst (λ (fault : Option PrepareFault). IsAmong fault (kept_faults source.lines)) accepted (among listing disassembly source.lines) in
    ap (λ (faults : List FaultyLine). fault_lines source faults (marks_of source.lines faults) ++ flat_map (note_line source) (notes_of source.lines faults)) none

not_none : (source : SourceLines) (fault : PrepareFault) (faults : List FaultyLine) (notes : Lines) → Has fault faults
    → fault_lines source faults (marks_of source.lines faults) ++ notes ≡ flat_map (mark_line source) (marks_of source.lines faults) ++ notes
not_none source fault [] notes h = absurd h
not_none source fault (f ∷ faults) notes h = refl

pub refusals_written : Among → RefusalsAreWritten
unfolding faults_text
refusals_written among listing disassembly source number kind refused =
    let has : Has (At number kind) (kept_faults source.lines) =
    subst (λ (fault : Option PrepareFault). IsAmong fault (kept_faults source.lines)) refused (among listing disassembly source.lines) in
    record {
      has = has;
      written = not_none source (At number kind) (kept_faults source.lines) (flat_map (note_line source) (notes_of source.lines (kept_faults source.lines))) has;
    }
