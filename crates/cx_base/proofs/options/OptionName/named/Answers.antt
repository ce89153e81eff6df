use Rattle.cx_base.proofs.CommandTableLemmas.{found_by_option_name}
use Rattle.cx_base.proofs.options.OptionName.named.Goals as goal

pub returns : goal.returns
returns c = rw c.with_name.ensures (found_by_option_name c.args.name.now)
