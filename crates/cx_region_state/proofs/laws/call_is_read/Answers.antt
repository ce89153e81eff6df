use Rattle.cx_region_state.proofs.CallLawLemmas.{call_is_read}
use Rattle.cx_region_state.proofs.laws.call_is_read.Goals as goal

pub returns : goal.returns
returns c = call_is_read c.commands_are_found.ensures.by_function
