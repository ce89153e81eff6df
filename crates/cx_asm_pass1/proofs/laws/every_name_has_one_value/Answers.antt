use Rattle.cx_asm_pass1.specs.Facts.Definitions.{defined_once_after, first_value}
use Rattle.cx_asm_pass1.specs.Facts.Kept.{value_kept}
use Rattle.cx_asm_pass1.proofs.laws.every_name_has_one_value.Goals as goal

pub returns-clause-first : goal.returns-clause-first
returns-clause-first c = first_value

pub returns-clause-stays : goal.returns-clause-stays
returns-clause-stays c = value_kept

pub returns-clause-once : goal.returns-clause-once
returns-clause-once c = defined_once_after
