use Rattle.cx_region_laws.proofs.AttachLemmas.{attached_calen}
use Rattle.cx_region_laws.proofs.CalenLemmas.{calen_is_the_levels}
use Rattle.cx_region_laws.proofs.laws.eibcalen_is_the_current_levels.Goals as goal

pub returns-clause-turned : goal.returns-clause-turned
returns-clause-turned c = calen_is_the_levels c.call_is_read.ensures c.half_turns_keep.ensures

pub returns-clause-attached : goal.returns-clause-attached
returns-clause-attached c = attached_calen
