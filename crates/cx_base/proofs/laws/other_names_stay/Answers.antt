use Rattle.cx_base.specs.Facts.Lookups.{lookup-insert_entry-other, lookup-set_value-other, lookup-remove_entry-other}
use Rattle.cx_base.proofs.laws.other_names_stay.Goals as goal

pub returns-clause-put : goal.returns-clause-put
returns-clause-put g c = λ entries name other value apart. lookup-insert_entry-other _ g.met.K.Eq.laws entries name other value apart

pub returns-clause-set : goal.returns-clause-set
returns-clause-set g c = λ entries name other value apart. lookup-set_value-other _ g.met.K.Eq.laws entries name other value apart

pub returns-clause-removed : goal.returns-clause-removed
returns-clause-removed g c = λ entries name other apart. lookup-remove_entry-other _ g.met.K.Eq.laws entries name other apart
