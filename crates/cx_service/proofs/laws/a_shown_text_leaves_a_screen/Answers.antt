use Rattle.cx_service.proofs.ScreenLemmas.{IsScreen-shown}
use Rattle.cx_service.proofs.laws.a_shown_text_leaves_a_screen.Goals as goal

pub returns : goal.returns
returns c = IsScreen-shown
