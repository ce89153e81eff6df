use Rattle.cx_service.proofs.LawLemmas.{short_text}
use Rattle.cx_service.proofs.laws.a_short_text_is_its_line.Goals as goal

pub returns : goal.returns
returns c = short_text
