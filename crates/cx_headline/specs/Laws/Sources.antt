-- What was assembled comes back.
use Rattle.std.specs.Prelude.{◌≡◌, ℕ, ◌++◌, Bool, List, map, Ok}
use Rattle.cx_code.specs.Lines.{lines}
use Rattle.cx_code.specs.Text.{line_text}
use Rattle.cx_source.specs.Faults.{source_in}
use Rattle.cx_source.specs.declared.source.Source.{Source}
use Rattle.cx_translate.specs.Translation.{translation_of}
use Rattle.cx_asm.specs.Assembly.{AssemblyParts, assembly_of, standing_of}
use Rattle.cx_asm_build.specs.Prepared.{prepared_of, where_wanted}
use Rattle.cx_asm_build.specs.declared.program.Prepared.{Prepared}

-- The lines of a script's block are read as a source, translated and assembled. What DISASM writes of it is what is in
-- the control section of the translated source, and that is the disassembly of the image, by the places of its
-- instructions.
pub record IsWrittenBack (listing disassembly : Bool) (block : List (List ℕ)) (prepared : Prepared) : Type 0 where
  pub source : Source
  pub read : source_in block ≡ Ok source
  pub translated : Source
  pub translation : translation_of source ≡ Ok translated
  pub made : AssemblyParts
  pub assembled : assembly_of translated ≡ Ok made
  pub image : prepared.image ≡ made.section.image
  pub text : prepared.text
      ≡ where_wanted listing made.listing ++ where_wanted disassembly (map line_text (standing_of translated).lines)
  pub back : lines prepared.image.text made.section.spans ≡ (standing_of translated).lines

-- each block of a source that gives a program comes back so: what DISASM writes of it is what is in its control section
abbrev pub BlocksComeBack : Type 0
BlocksComeBack = (listing disassembly : Bool) (block : List (List ℕ)) (prepared : Prepared)
    → prepared_of listing disassembly block ≡ Ok prepared → IsWrittenBack listing disassembly block prepared
