use Rattle.cx_look_script.proofs.TurnLemmas.{runs_take_turns as take_turns}
use Rattle.cx_look_script.proofs.laws.runs_take_turns.Goals as goal

pub returns : goal.returns
returns c = take_turns
