use Rattle.cx_script_actions.specs.Effects.{fresh_state}
use Rattle.cx_script.proofs.KnownLemmas.{known_bytes_decide}
use Rattle.cx_script.proofs.laws.known_bytes_decide.Goals as goal

pub returns : goal.returns
returns g c =
    known_bytes_decide g.M.MakesDisplays.make _ _ c.the_input_decides.ensures.decide (c.known_bytes_are_read.ensures fresh_state) (c.known_bytes_are_read-2.ensures fresh_state)
