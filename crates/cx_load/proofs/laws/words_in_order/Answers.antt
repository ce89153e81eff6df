use Rattle.cx_load.proofs.ApartLemmas.{apart_of_order}
use Rattle.cx_load.specs.Facts.Faults.{words_not_at_fault}
use Rattle.cx_load.proofs.laws.words_in_order.Goals as goal

pub returns-clause-apart : goal.returns-clause-apart
returns-clause-apart c = apart_of_order 0

pub returns-clause-refused : goal.returns-clause-refused
returns-clause-refused c image fault ordered inside lowest = words_not_at_fault image fault inside (apart_of_order 0 image.relocs ordered) lowest
