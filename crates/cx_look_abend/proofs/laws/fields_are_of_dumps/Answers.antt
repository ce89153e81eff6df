use Rattle.cx_look_abend.proofs.FieldLemmas.{fields_are_of_dumps as are_of_dumps}
use Rattle.cx_look_abend.proofs.laws.fields_are_of_dumps.Goals as goal

pub returns : goal.returns
returns c = are_of_dumps c.kept_fields_are_of_storage.ensures
