use Rattle.cx_exec.proofs.TranslationLemmas.{lent_first}
use Rattle.cx_exec.proofs.translation.first_lent.Goals as goal

pub returns : goal.returns
returns g c = lent_first _ _ _ _ _ _ _ c.args.at.first c.args.at.second c.in_ok-argument.ensures.bytes c.in_ok-table.ensures.bytes c.first_in.ensures.before c.first_in.ensures.found
