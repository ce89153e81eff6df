use Rattle.cx_base.specs.Facts.Lookups.{lookup-remove_entry-same}
use Rattle.cx_base.proofs.laws.a_name_taken_out_is_gone.Goals as goal

pub returns : goal.returns
returns g c = lookup-remove_entry-same _ g.met.K.Eq.laws
