use Rattle.cx_region_laws.proofs.RunLemmas.{links_are_returned}
use Rattle.cx_region_laws.proofs.laws.a_link_is_returned_from.Goals as goal

pub returns : goal.returns
returns c = links_are_returned
