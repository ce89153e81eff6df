use Rattle.cx_asm_execution.proofs.LoadedLemmas.{all_loaded}
use Rattle.cx_asm_execution.proofs.StandingLemmas.{texts_are_made}
use Rattle.cx_asm_execution.proofs.laws.lines_are_loaded.Goals as goal

pub returns : goal.returns
returns c =
    let apart = c.an_assembly_stands_apart.ensures in
    all_loaded (record { text = c.the_text_is_decided_by_its_bytes.ensures.is; others = c.relocation.ensures.others; spans = c.span_is_bytes.ensures })
    (texts_are_made apart.within_section apart.size apart.lines)
