use Rattle.cx_asm_laws.proofs.BackLemmas.{comes_back, lines_are_resolved}
use Rattle.cx_asm_laws.proofs.laws.what_was_assembled_comes_back.Goals as goal

pub returns-clause-back : goal.returns-clause-back
returns-clause-back c = comes_back c.made_lines_do_not_overlap.ensures c.lines_come_back.ensures c.what_is_resolved_is_well_formed.ensures

pub returns-clause-resolved : goal.returns-clause-resolved
returns-clause-resolved c =
    lines_are_resolved (comes_back c.made_lines_do_not_overlap.ensures c.lines_come_back.ensures c.what_is_resolved_is_well_formed.ensures)
