use Rattle.cx_asm.specs.Assembly.{assembly_of}
use Rattle.cx_asm_build.proofs.StageLemmas.{assembly_reported}
use Rattle.cx_asm_build.proofs.program.by_assembly.Goals as goal

pub returns-in-Err : goal.returns-in-Err
returns-in-Err c =
    assembly_reported c.args.listing c.args.disassembly (assembly_of c.args.source.now) c.in-Err.fault c.from.result c.in-Err.ensures c.from.ensures
