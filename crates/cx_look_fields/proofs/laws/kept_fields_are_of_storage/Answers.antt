use Rattle.cx_look_fields.proofs.KeptLemmas.{kept_fields_are_of_storage as are_of_storage}
use Rattle.cx_look_fields.proofs.laws.kept_fields_are_of_storage.Goals as goal

pub returns : goal.returns
returns c = are_of_storage
