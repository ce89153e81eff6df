use Rattle.cx_service.proofs.ResourceSound.{released_keeps}
use Rattle.cx_service.proofs.enqueues.Enqueues.release_all.Goals as goal

pub invariant_of-self : goal.invariant_of-self
invariant_of-self c = rw c.release.ensures (released_keeps c.self.inside.resources.entries c.args.slot c.self.invariant)

pub returns-clause-sound : goal.returns-clause-sound
returns-clause-sound c = rw c.release.ensures (released_keeps c.self.inside.resources.entries c.args.slot c.self.invariant)
