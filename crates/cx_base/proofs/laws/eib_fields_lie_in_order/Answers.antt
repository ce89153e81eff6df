use Rattle.std.proofs.Common.{lit<, refl}
use Rattle.std.specs.List.{Contains}
use Rattle.cx_base.specs.Eib.{eib_fields}
use Rattle.cx_base.specs.declared.eib.EibField.{EibField}
use Rattle.cx_base.specs.declared.eib.EibField.TheVariants as field
use Rattle.cx_base.proofs.laws.eib_fields_lie_in_order.Goals as goal

listed : (f : EibField) → Contains eib_fields f
listed field.Time = (0, lit< tt, refl)
listed field.Date = (1, lit< tt, refl)
listed field.Trnid = (2, lit< tt, refl)
listed field.Taskn = (3, lit< tt, refl)
listed field.Trmid = (4, lit< tt, refl)
listed field.Calen = (5, lit< tt, refl)
listed field.Aid = (6, lit< tt, refl)
listed field.Fn = (7, lit< tt, refl)
listed field.Rcode = (8, lit< tt, refl)
listed field.Rsrce = (9, lit< tt, refl)
listed field.Resp = (10, lit< tt, refl)

pub returns-clause-all : goal.returns-clause-all
returns-clause-all c = listed
