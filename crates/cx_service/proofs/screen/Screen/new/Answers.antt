use Rattle.cx_service.proofs.ScreenLemmas.{IsScreen-blank}
use Rattle.cx_service.proofs.screen.Screen.new.Goals as goal

pub invariant_of-result : goal.invariant_of-result
invariant_of-result c = IsScreen-blank
