use Rattle.cx_translate.specs.Translation.{translation_of}
use Rattle.cx_asm_build.proofs.StageLemmas.{translation_reported}
use Rattle.cx_asm_build.proofs.program.by_translation.Goals as goal

pub returns-in-Err : goal.returns-in-Err
returns-in-Err c =
    translation_reported c.args.listing c.args.disassembly (translation_of c.args.source) c.in-Err.fault c.from.result c.in-Err.ensures c.from.ensures
