-- A stage's fault is the whole's.
use Rattle.std.proofs.Common.{◌≡◌, Bool, Result, Err, sym, ap, subst}
use Rattle.cx_source.specs.Reader.{ReadsAs}
use Rattle.cx_source.specs.declared.source.Source.{Source}
use Rattle.cx_source.specs.declared.source.SourceFault.{SourceFault}
use Rattle.cx_source.specs.declared.source.SourceFault.TheVariants as source
use Rattle.cx_translate.specs.Translation.{AnswersAs}
use Rattle.cx_translate.specs.declared.faults.TransFault.{TransFault}
use Rattle.cx_translate.specs.declared.faults.TransFault.TheVariants as trans
use Rattle.cx_asm.specs.Assembly.{AssemblyParts, Assembles}
use Rattle.cx_asm.specs.declared.faults.AsmFault.{AsmFault}
use Rattle.cx_asm.specs.declared.faults.AsmFault.TheVariants as asm
use Rattle.cx_asm_build.specs.Kinds.{of_assembly, of_source, of_translation}
use Rattle.cx_asm_build.specs.Prepared.{Prepares, by_assembly, by_source, by_translation}
use Rattle.cx_asm_build.specs.declared.faults.PrepareFault.{PrepareFault}

assembly_due : (listing disassembly : Bool) (due : Result AssemblyParts AsmFault) (fault : AsmFault) → Assembles due (Err fault)
    → Prepares (by_assembly listing disassembly due) (Err (of_assembly fault))
unfolding of_assembly
assembly_due listing disassembly due (asm.UnknownOperation n) h = ap (by_assembly listing disassembly) h
assembly_due listing disassembly due (asm.UndefinedSymbol n) h = ap (by_assembly listing disassembly) h
assembly_due listing disassembly due (asm.DuplicateSymbol n) h = ap (by_assembly listing disassembly) h
assembly_due listing disassembly due (asm.NoAddressability n) h = ap (by_assembly listing disassembly) h
assembly_due listing disassembly due (asm.BadOperand n) h = ap (by_assembly listing disassembly) h
assembly_due listing disassembly due (asm.ValueOutOfRange n) h = ap (by_assembly listing disassembly) h
assembly_due listing disassembly due (asm.NotRelocatable n) h = ap (by_assembly listing disassembly) h
assembly_due listing disassembly due (asm.TooLarge n) h = ap (by_assembly listing disassembly) h
assembly_due listing disassembly due asm.Memory h = tt

pub assembly_reported : (listing disassembly : Bool) (due : Result AssemblyParts AsmFault) (fault : AsmFault) (given : PrepareFault) → Assembles due (Err fault)
    → given ≡ of_assembly fault → Prepares (by_assembly listing disassembly due) (Err given)
assembly_reported listing disassembly due fault given h e =
    subst (λ (f : PrepareFault). Prepares (by_assembly listing disassembly due) (Err f)) (sym e) (assembly_due listing disassembly due fault h)

translation_due : (listing disassembly : Bool) (due : Result Source TransFault) (fault : TransFault) → AnswersAs due (Err fault)
    → Prepares (by_translation listing disassembly due) (Err (of_translation fault))
unfolding of_translation
translation_due listing disassembly due (trans.UnknownCommand n) h = ap (by_translation listing disassembly) h
translation_due listing disassembly due (trans.UnknownOption n) h = ap (by_translation listing disassembly) h
translation_due listing disassembly due (trans.MissingOption n) h = ap (by_translation listing disassembly) h
translation_due listing disassembly due (trans.Conflict n) h = ap (by_translation listing disassembly) h
translation_due listing disassembly due (trans.TooManyConditions n) h = ap (by_translation listing disassembly) h
translation_due listing disassembly due (trans.BadArgument n) h = ap (by_translation listing disassembly) h
translation_due listing disassembly due trans.Memory h = tt

pub translation_reported : (listing disassembly : Bool) (due : Result Source TransFault) (fault : TransFault) (given : PrepareFault) → AnswersAs due (Err fault)
    → given ≡ of_translation fault → Prepares (by_translation listing disassembly due) (Err given)
translation_reported listing disassembly due fault given h e =
    subst (λ (f : PrepareFault). Prepares (by_translation listing disassembly due) (Err f)) (sym e) (translation_due listing disassembly due fault h)

-- a source's fault is answered for what the reader makes of it
source_due : (listing disassembly : Bool) (due : Result Source SourceFault) (fault : SourceFault) → ReadsAs due (Err fault)
    → Prepares (by_source listing disassembly due) (Err (of_source fault))
unfolding of_source
source_due listing disassembly due (source.BadCharacter n) h = ap (by_source listing disassembly) h
source_due listing disassembly due (source.BadName n) h = ap (by_source listing disassembly) h
source_due listing disassembly due (source.BadContinuation n) h = ap (by_source listing disassembly) h
source_due listing disassembly due (source.TooLong n) h = ap (by_source listing disassembly) h
source_due listing disassembly due (source.NoEnd n) h = ap (by_source listing disassembly) h
source_due listing disassembly due source.Memory h = tt

pub source_reported : (listing disassembly : Bool) (due : Result Source SourceFault) (fault : SourceFault) (given : PrepareFault) → ReadsAs due (Err fault)
    → given ≡ of_source fault → Prepares (by_source listing disassembly due) (Err given)
source_reported listing disassembly due fault given h e =
    subst (λ (f : PrepareFault). Prepares (by_source listing disassembly due) (Err f)) (sym e) (source_due listing disassembly due fault h)
