use Rattle.cx_service.proofs.LawLemmas.{one_shown}
use Rattle.cx_service.proofs.laws.a_shown_text_is_decided.Goals as goal

pub returns : goal.returns
returns c = one_shown
