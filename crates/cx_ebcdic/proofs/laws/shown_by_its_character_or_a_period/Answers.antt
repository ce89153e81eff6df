use Rattle.cx_ebcdic.proofs.TableLemmas.{shown_or_period}
use Rattle.cx_ebcdic.proofs.laws.shown_by_its_character_or_a_period.Goals as goal

pub returns : goal.returns
returns c = shown_or_period
