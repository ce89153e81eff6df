use Rattle.cx_asm_build.specs.Facts.Faults.{prepared_not_memory}
use Rattle.cx_asm_build.proofs.laws.no_source_is_refused_for_memory.Goals as goal

pub returns : goal.returns
returns c = prepared_not_memory
