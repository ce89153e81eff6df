use Rattle.cx_base.specs.Facts.Lookups.{lookup-insert_entry-same}
use Rattle.cx_base.proofs.laws.a_name_put_in_is_found.Goals as goal

pub returns : goal.returns
returns g c = lookup-insert_entry-same _ g.met.K.Eq.laws
