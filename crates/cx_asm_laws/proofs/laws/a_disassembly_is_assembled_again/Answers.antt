use Rattle.cx_asm_laws.proofs.ReassembledLemmas.{assembles_again}
use Rattle.cx_asm_laws.proofs.laws.a_disassembly_is_assembled_again.Goals as goal

pub returns : goal.returns
returns c =
    let apart = c.an_assembly_stands_apart.ensures in
    assembles_again
    (record { named = c.one_name.ensures.machine; sizes = c.every_spelling.ensures.length })
    c.what_is_resolved_is_well_formed.ensures
    (record { size = apart.size; short = apart.within_section; lines = apart.lines })
    c.what_was_assembled_comes_back.ensures.resolved
