use Rattle.cx_region_commands.specs.Facts.Decides.{judged_once}
use Rattle.cx_region_commands.proofs.laws.a_call_is_judged_once.Goals as goal

pub returns : goal.returns
returns c = judged_once
