use Rattle.std.proofs.Common.{◌≡◌, ◌+◌, ◌∙◌, None, ap, sym, length}
use Rattle.cx_service.specs.Queues.{write_fault}
use Rattle.cx_service.proofs.QueueSound.{written_keeps}
use Rattle.cx_service.proofs.queues.Queues.write.Goals as goal

pub invariant_of-self-2 : goal.invariant_of-self-2
invariant_of-self-2 c =
    let none : write_fault c.self.inside.queues.entries c.args.name (length c.args.bytes.now) ≡ None = rw c.self.view_is (sym c.in_ok-can_write.ensures) in
    let keeps = written_keeps c.self.inside.queues.entries c.args.name c.args.bytes.now c.self.invariant.0 none in
    rw c.in_ok-number.ensures.ok (keeps.sound, ap (λ d. d + length c.args.bytes.now) c.self.invariant.1 ∙ keeps.all)

pub returns-clause-sound : goal.returns-clause-sound
returns-clause-sound c =
    let none : write_fault c.self.inside.queues.entries c.args.name (length c.args.bytes.now) ≡ None = rw c.self.view_is (sym c.in_ok-can_write.ensures) in
    let keeps = written_keeps c.self.inside.queues.entries c.args.name c.args.bytes.now c.self.invariant.0 none in
    rw c.in_ok-number.ensures.ok keeps.sound
