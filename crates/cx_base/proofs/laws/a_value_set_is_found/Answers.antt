use Rattle.cx_base.specs.Facts.Lookups.{lookup-set_value-same}
use Rattle.cx_base.proofs.laws.a_value_set_is_found.Goals as goal

pub returns : goal.returns
returns g c = lookup-set_value-same _ g.met.K.Eq.laws
