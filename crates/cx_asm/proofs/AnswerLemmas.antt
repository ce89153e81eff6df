-- What an answer says of the source that it is of.
use Rattle.std.specs.Prelude.{Result, Ok, Err}
use Rattle.std.proofs.Common.{◌≡◌, ◌≤◌, ℕ, None, List, length, refl, sym, ◌∙◌, subst}
use Rattle.cx_code.specs.declared.disassembly.Line.{Line}
use Rattle.cx_asm_image.specs.Resolved.{AreApart}
use Rattle.cx_asm_image.specs.Text.{section_text}
use Rattle.cx_asm_pass1.specs.Locations.{final_state}
use Rattle.cx_source.specs.declared.source.Source.{Source}
use Rattle.cx_asm.specs.Assembly.{Assembles, AssemblyParts, assembly_of, assembly_parts, section_of, control_section_size, standing_of}
use Rattle.cx_asm.specs.Facts.Accepted.{accepted}
use Rattle.cx_asm.specs.Laws.SectionLines.{IsWithin, WordsApart}
use Rattle.cx_asm.specs.declared.faults.AsmFault.{AsmFault}
use Rattle.cx_asm.specs.declared.faults.AsmFault.TheVariants as fault

-- ---- one answer
same_answer : (due one : Result AssemblyParts AsmFault) → Assembles due one → (one ≡ Err fault.Memory → ⊥) → due ≡ one
same_answer due (Ok made) e not = e
same_answer due (Err fault.Memory) e not = absurd (not refl)
same_answer due (Err (fault.UnknownOperation line)) e not = e
same_answer due (Err (fault.UndefinedSymbol line)) e not = e
same_answer due (Err (fault.DuplicateSymbol line)) e not = e
same_answer due (Err (fault.NoAddressability line)) e not = e
same_answer due (Err (fault.BadOperand line)) e not = e
same_answer due (Err (fault.ValueOutOfRange line)) e not = e
same_answer due (Err (fault.NotRelocatable line)) e not = e
same_answer due (Err (fault.TooLarge line)) e not = e

pub one_answer : (due one other : Result AssemblyParts AsmFault) → Assembles due one → Assembles due other → (one ≡ Err fault.Memory → ⊥) → (other ≡ Err fault.Memory → ⊥) → one ≡ other
one_answer due one other e f one_reported other_reported = sym (same_answer due one e one_reported) ∙ same_answer due other f other_reported

-- ---- its section
pub record SectionStands (source : Source) (made : AssemblyParts) : Type 0 where
  pub size : length made.section.image.text ≡ control_section_size source
  pub lines : AreApart 0 made.section.resolved (length made.section.image.text)
  pub words : WordsApart 0 made.section.image.relocs (length made.section.image.text)

module _ (has_length : (resolved : List Line) (size : ℕ) → AreApart 0 resolved size → length (section_text resolved size) ≡ size) where
  made_stands : (source : Source) → IsWithin 0 (standing_of source) (control_section_size source) → SectionStands source (assembly_parts source)
  unfolding section_of
  made_stands source within =
      let size = has_length (standing_of source).lines (control_section_size source) within.lines in
      record {
        size = size;
        lines = subst (λ n. AreApart 0 (standing_of source).lines n) (sym size) within.lines;
        words = subst (λ n. WordsApart 0 (standing_of source).relocs n) (sym size) within.words;
      }

  pub section_stands : ((source : Source) → (final_state source).fault ≡ None → control_section_size source ≤ 65536 → IsWithin 0 (standing_of source) (control_section_size source))
      → (source : Source) (made : AssemblyParts) → assembly_of source ≡ Ok made → SectionStands source made
  section_stands within source made e =
      let is = accepted source made e in
      subst (λ m. SectionStands source m) is.made_is (made_stands source (within source is.sound is.short))
