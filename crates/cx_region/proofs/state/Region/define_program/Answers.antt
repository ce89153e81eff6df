use Rattle.std.proofs.Common.{sym}
use Rattle.cx_load.specs.Facts.Faults.{facts_of_fit}
use Rattle.cx_region.specs.Facts.SoundDefining.{sound_program, sound_with_queues}
use Rattle.cx_region.proofs.state.Region.define_program.Goals as goal

pub invariant_of-self-2 : goal.invariant_of-self-2
invariant_of-self-2 g c =
    sound_with_queues _ _ _ c.load_into.ensures.queues c.load_into.ensures.resources
    (sound_program _ c.args.name _ c.in_ok-loaded.loaded _ _ c.self.invariant c.load_into.ensures.sound (facts_of_fit _ c.load_into.ensures.fit).nonempty c.in_ok-loaded.ensures.good
    (rw c.self.view_is (sym c.in_ok-can_define_program.ensures.value)) c.in_ok-loaded.ensures.loaded
    c.in_ok-loaded.ensures.put c.in_ok-loaded.ensures.distinct)

pub returns-clause-sound : goal.returns-clause-sound
returns-clause-sound g c = invariant_of-self-2 g c
