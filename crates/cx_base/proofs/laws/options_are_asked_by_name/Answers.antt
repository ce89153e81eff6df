use Rattle.cx_base.proofs.ArgumentLemmas.{option_asked, option_found}
use Rattle.cx_base.proofs.laws.options_are_asked_by_name.Goals as goal

pub returns-clause-row : goal.returns-clause-row
returns-clause-row c = option_found

pub returns-clause-bit : goal.returns-clause-bit
returns-clause-bit c = option_asked
