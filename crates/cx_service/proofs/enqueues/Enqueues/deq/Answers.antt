use Rattle.cx_service.proofs.ResourceSound.{dequeued_keeps}
use Rattle.cx_service.proofs.enqueues.Enqueues.deq.Goals as goal

pub invariant_of-self : goal.invariant_of-self
invariant_of-self c = rw c.take_off.ensures (dequeued_keeps c.self.inside.resources.entries c.args.slot c.args.name.now c.self.invariant)

pub returns-clause-sound : goal.returns-clause-sound
returns-clause-sound c = rw c.take_off.ensures (dequeued_keeps c.self.inside.resources.entries c.args.slot c.args.name.now c.self.invariant)
