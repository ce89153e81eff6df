use Rattle.cx_look_storage.proofs.MetLemmas.{met_by_bytes}
use Rattle.cx_look_storage.proofs.laws.an_area_is_met_where_it_has_a_byte.Goals as goal

pub returns : goal.returns
returns c = met_by_bytes
