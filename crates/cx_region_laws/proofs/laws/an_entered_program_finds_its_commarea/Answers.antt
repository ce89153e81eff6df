use Rattle.cx_region_laws.proofs.AttachLemmas.{attached_find_commareas}
use Rattle.cx_region_laws.proofs.CommareaLemmas.{entered_find_commareas}
use Rattle.cx_region_laws.proofs.laws.an_entered_program_finds_its_commarea.Goals as goal

pub returns-clause-entered : goal.returns-clause-entered
returns-clause-entered c = entered_find_commareas c.call_is_read.ensures c.half_turns_keep.ensures

pub returns-clause-attached : goal.returns-clause-attached
returns-clause-attached c = attached_find_commareas
