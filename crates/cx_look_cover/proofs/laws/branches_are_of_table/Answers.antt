use Rattle.cx_look_cover.proofs.BranchLemmas.{branches_are_of_table as law}
use Rattle.cx_look_cover.proofs.laws.branches_are_of_table.Goals as goal

pub returns : goal.returns
returns c = law c.one_row.ensures c.read_by_first_byte.ensures.known c.read_by_first_byte.ensures.only
