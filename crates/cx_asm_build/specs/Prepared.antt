-- What the lines of a source are made into: what is written of it, and its image; or why they give no program (own).
use Rattle.std.specs.Prelude.{ℕ, ◌≡◌, Bool, if◌then◌else◌, Result, Ok, Err, List, [], ◌++◌, codes, flat_map, map}
use Rattle.cx_asm.specs.Assembly.{AssemblyParts, assembly_of}
use Rattle.cx_asm.specs.declared.faults.AsmFault.{AsmFault}
use Rattle.cx_code.specs.Text.{line_text}
use Rattle.cx_source.specs.Faults.{source_in}
use Rattle.cx_source.specs.declared.source.Source.{Source}
use Rattle.cx_source.specs.declared.source.SourceFault.{SourceFault}
use Rattle.cx_translate.specs.Translation.{translation_of}
use Rattle.cx_translate.specs.declared.faults.TransFault.{TransFault}
use Rattle.cx_asm_build.specs.Kinds.{of_assembly, of_source, of_translation}
use Rattle.cx_asm_build.specs.declared.faults.PrepareFault.{PrepareFault}
use Rattle.cx_asm_build.specs.declared.faults.PrepareFault.TheVariants.{Memory}
use Rattle.cx_asm_build.specs.declared.program.Prepared.{Prepared}

-- lines, each ended by LF, where they are asked for
abbrev pub where_wanted : Bool → List (List ℕ) → List ℕ
where_wanted wanted all = if wanted then flat_map (λ line. line ++ codes "\n") all else []

-- what is written: the listing and then the disassembly
unfoldable pub output_lines : Bool → Bool → AssemblyParts → List ℕ
output_lines listing disassembly assembly =
    where_wanted listing assembly.listing ++ where_wanted disassembly (map line_text assembly.section.resolved)

-- One stage after the other, each on what the one before gave: the assembly, the translation, the source.
abbrev pub by_assembly : Bool → Bool → Result AssemblyParts AsmFault → Result Prepared PrepareFault
by_assembly listing disassembly (Err fault) = Err (of_assembly fault)
by_assembly listing disassembly (Ok assembly) =
    Ok (record { text = output_lines listing disassembly assembly; image = assembly.section.image })

abbrev pub by_translation : Bool → Bool → Result Source TransFault → Result Prepared PrepareFault
by_translation listing disassembly (Err fault) = Err (of_translation fault)
by_translation listing disassembly (Ok translated) = by_assembly listing disassembly (assembly_of translated)

abbrev pub by_source : Bool → Bool → Result Source SourceFault → Result Prepared PrepareFault
by_source listing disassembly (Err fault) = Err (of_source fault)
by_source listing disassembly (Ok source) = by_translation listing disassembly (translation_of source)

-- what the lines of a source are made into: read, translated and assembled
unfoldable pub prepared_of : Bool → Bool → List (List ℕ) → Result Prepared PrepareFault
prepared_of listing disassembly all = by_source listing disassembly (source_in all)

-- The answer is the one due, unless memory runs out.
abbrev pub Prepares : Result Prepared PrepareFault → Result Prepared PrepareFault → Type 0
Prepares due (Err Memory) = Unit {0}
Prepares due result = due ≡ result
