use Rattle.cx_look_symbols.proofs.SpotLemmas.{lines_are_in_sources as in_sources}
use Rattle.cx_look_symbols.proofs.laws.lines_are_in_sources.Goals as goal

pub returns : goal.returns
returns c = in_sources
