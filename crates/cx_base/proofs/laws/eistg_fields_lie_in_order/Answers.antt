use Rattle.std.proofs.Common.{lit<, refl}
use Rattle.std.specs.List.{Contains}
use Rattle.cx_base.specs.Eistg.{eistg_fields}
use Rattle.cx_base.specs.declared.eistg.EistgField.{EistgField}
use Rattle.cx_base.specs.declared.eistg.EistgField.TheVariants as field
use Rattle.cx_base.proofs.laws.eistg_fields_lie_in_order.Goals as goal

listed : (f : EistgField) → Contains eistg_fields f
listed field.Eipl = (0, lit< tt, refl)
listed field.Eitp = (1, lit< tt, refl)
listed field.Eicap = (2, lit< tt, refl)

pub returns-clause-all : goal.returns-clause-all
returns-clause-all c = listed
