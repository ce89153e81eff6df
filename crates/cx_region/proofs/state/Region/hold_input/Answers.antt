use Rattle.cx_region.proofs.EventLemmas.{on_err}
use Rattle.cx_region.proofs.KeyLemmas.{given_grows, memory_seen, keyed_give, keyed_seen, sound_give}
use Rattle.cx_region.proofs.state.Region.hold_input.Goals as goal

pub returns-in_err-input-clause-memory : goal.returns-in_err-input-clause-memory
returns-in_err-input-clause-memory g c =
    on_err _ _ (memory_seen _ _ c.args.name _ c.self.view_is (given_grows _ c.args.name _ (rw c.self.view_is c.requires.giving)))

pub invariant_of-self : goal.invariant_of-self
invariant_of-self g c =
    sound_give _ c.args.name (rw c.self.view_is c.requires.giving) _ _ c.self.invariant c.hold_input_at.ensures

pub returns-clause-keyed : goal.returns-clause-keyed
returns-clause-keyed g c =
    keyed_seen _ _ c.args.name _ _ _ c.self.view_is
    (keyed_give _ c.args.name (rw c.self.view_is c.requires.giving) _ _ _ c.hold_input_at.ensures c.in_ok-input.ensures)

pub returns-clause-sound : goal.returns-clause-sound
returns-clause-sound g c = invariant_of-self g c
