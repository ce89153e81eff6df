use Rattle.cx_look_fields.proofs.NearestLemmas.{nearest_field_is, nearest_label_is}
use Rattle.cx_look_fields.proofs.laws.the_nearest_is_reported.Goals as goal

pub returns-clause-fields : goal.returns-clause-fields
returns-clause-fields c = nearest_field_is c.symbols_are_looked_up.ensures

pub returns-clause-labels : goal.returns-clause-labels
returns-clause-labels c = nearest_label_is
