use Rattle.cx_asm.proofs.SectionLemmas.{source_within}
use Rattle.cx_asm.proofs.laws.made_lines_do_not_overlap.Goals as goal

pub returns : goal.returns
returns c = source_within c.what_is_resolved_is_well_formed.ensures c.every_spelling.ensures.length
