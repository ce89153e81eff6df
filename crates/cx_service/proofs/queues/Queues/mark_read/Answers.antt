use Rattle.std.proofs.Common.{◌≡◌, ◌∙◌, true, is_some}
use Rattle.cx_service.specs.Queues.{item_of}
use Rattle.cx_service.proofs.QueueSound.{read_keeps}
use Rattle.cx_service.proofs.queues.Queues.mark_read.Goals as goal

pub invariant_of-self : goal.invariant_of-self
invariant_of-self c =
    let there : is_some (item_of c.self.inside.queues.entries c.args.name c.args.n) ≡ true = rw c.self.view_is c.requires in
    let keeps = read_keeps c.self.inside.queues.entries c.args.name c.args.n c.self.invariant.0 there in
    rw c.mark_read.ensures (keeps.sound, c.self.invariant.1 ∙ keeps.all)

pub returns-clause-sound : goal.returns-clause-sound
returns-clause-sound c =
    let there : is_some (item_of c.self.inside.queues.entries c.args.name c.args.n) ≡ true = rw c.self.view_is c.requires in
    let keeps = read_keeps c.self.inside.queues.entries c.args.name c.args.n c.self.invariant.0 there in
    rw c.mark_read.ensures keeps.sound
