use Rattle.cx_base.proofs.RowLemmas.{rules_speak}
use Rattle.cx_base.proofs.laws.rules_speak_of_options.Goals as goal

pub returns : goal.returns
returns c = rules_speak
