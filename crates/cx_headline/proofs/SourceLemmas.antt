-- What the block of a source is made into comes back.
use Rattle.std.proofs.Common.{◌≡◌, ℕ, Bool, List, refl, ap, subst}
use Rattle.std.specs.Prelude.{◌++◌, map, Result, Ok, Err}
use Rattle.cx_code.specs.declared.disassembly.Line.{Line}
use Rattle.cx_code.specs.Text.{line_text}
use Rattle.cx_source.specs.Faults.{source_in}
use Rattle.cx_source.specs.declared.source.Source.{Source}
use Rattle.cx_source.specs.declared.source.SourceFault.{SourceFault}
use Rattle.cx_translate.specs.Translation.{translation_of}
use Rattle.cx_translate.specs.declared.faults.TransFault.{TransFault}
use Rattle.cx_asm.specs.Assembly.{AssemblyParts, assembly_of, section_of, standing_of}
use Rattle.cx_asm.specs.Facts.Accepted.{accepted}
use Rattle.cx_asm.specs.declared.faults.AsmFault.{AsmFault}
use Rattle.cx_asm_laws.specs.Laws.Back.{ComesBack}
use Rattle.cx_asm_build.specs.Prepared.{by_assembly, by_source, by_translation, prepared_of, where_wanted, output_lines}
use Rattle.cx_asm_build.specs.declared.program.Prepared.{Prepared}
use Rattle.cx_headline.specs.Laws.Sources.{BlocksComeBack, IsWrittenBack}

-- what is written of an assembly, and its image
abbrev prepared_by : Bool → Bool → AssemblyParts → Prepared
prepared_by listing disassembly made = record { text = output_lines listing disassembly made; image = made.section.image }

-- an accepted source's resolved lines are those in its control section
resolved_is : (source : Source) (made : AssemblyParts) → assembly_of source ≡ Ok made → made.section.resolved ≡ (standing_of source).lines
unfolding section_of
resolved_is source made e = subst (λ (m : AssemblyParts). m.section.resolved ≡ (standing_of source).lines) (accepted source made e).made_is refl

pub blocks_come_back : ComesBack → BlocksComeBack
unfolding prepared_of output_lines
blocks_come_back back listing disassembly block prepared e = by_read (source_in block) refl e
  where
    made_back : (source translated : Source) (made : AssemblyParts) → source_in block ≡ Ok source → translation_of source ≡ Ok translated
        → assembly_of translated ≡ Ok made → prepared_by listing disassembly made ≡ prepared → IsWrittenBack listing disassembly block prepared
    made_back source translated made read translation assembled same =
        let reported : List Line → List ℕ = λ all. where_wanted listing made.listing ++ where_wanted disassembly (map line_text all) in
        subst (λ (p : Prepared). IsWrittenBack listing disassembly block p) same (record {
          source = source;
          read = read;
          translated = translated;
          translation = translation;
          made = made;
          assembled = assembled;
          image = refl;
          text = ap reported (resolved_is translated made assembled);
          back = back translated made assembled;
        })

    by_made : (source translated : Source) (result : Result AssemblyParts AsmFault) → source_in block ≡ Ok source → translation_of source ≡ Ok translated
        → assembly_of translated ≡ result → by_assembly listing disassembly result ≡ Ok prepared → IsWrittenBack listing disassembly block prepared
    by_made source translated (Ok made) read translation assembled is = made_back source translated made read translation assembled cc
    by_made source translated (Err fault) read translation assembled is = cc

    by_translated : (source : Source) (result : Result Source TransFault) → source_in block ≡ Ok source → translation_of source ≡ result
        → by_translation listing disassembly result ≡ Ok prepared → IsWrittenBack listing disassembly block prepared
    by_translated source (Ok translated) read translation is = by_made source translated (assembly_of translated) read translation refl is
    by_translated source (Err fault) read translation is = cc

    by_read : (result : Result Source SourceFault) → source_in block ≡ result → by_source listing disassembly result ≡ Ok prepared
        → IsWrittenBack listing disassembly block prepared
    by_read (Ok source) read is = by_translated source (translation_of source) read refl is
    by_read (Err fault) read is = cc
