use Rattle.cx_look_fields.proofs.FieldLemmas.{fields_are_operands as are_operands}
use Rattle.cx_look_fields.proofs.laws.fields_are_operands.Goals as goal

pub returns : goal.returns
returns c = are_operands c.symbols_are_looked_up.ensures
