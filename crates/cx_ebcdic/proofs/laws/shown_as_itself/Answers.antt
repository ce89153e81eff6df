use Rattle.cx_ebcdic.proofs.TableLemmas.{shown_itself}
use Rattle.cx_ebcdic.proofs.laws.shown_as_itself.Goals as goal

pub returns : goal.returns
returns c = shown_itself
