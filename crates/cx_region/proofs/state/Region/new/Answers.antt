use Rattle.cx_region.specs.Facts.SoundDefining.{sound_fresh}
use Rattle.cx_region.proofs.state.Region.new.Goals as goal

pub invariant_of-result : goal.invariant_of-result
invariant_of-result g c =
    sound_fresh _ _ _ _ _ _ (g.met.S.Store.sound c.place_cwa.new.store) c.in_ok-queues.ensures.sound c.in_ok-enqueues.ensures.sound
    c.in_ok-place_cwa.ensures c.new-3.ensures.empty c.new-4.ensures.empty c.new-5.ensures.empty
    c.in_ok-queues.ensures.empty c.in_ok-enqueues.ensures.empty

pub returns-clause-sound : goal.returns-clause-sound
returns-clause-sound g c = invariant_of-result g c
