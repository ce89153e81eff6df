use Rattle.cx_look_symbols.proofs.RowLemmas.{symbols_are_looked_up as looked_up}
use Rattle.cx_look_symbols.proofs.laws.symbols_are_looked_up.Goals as goal

pub returns : goal.returns
returns c = looked_up
