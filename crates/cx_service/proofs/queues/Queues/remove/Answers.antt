use Rattle.std.proofs.Common.{◌≡◌, ◌≤◌, Some, sym, subst, arith}
use Rattle.std.specs.List.{IsDistinct}
use Rattle.std.specs.Map.{keys_of}
use Rattle.cx_ebcdic.specs.Names.{is_name}
use Rattle.cx_service.specs.Queues.{queue_of, size_of, data_of, most_data}
use Rattle.cx_service.proofs.QueueSound.{size_within, deleted_keeps}
use Rattle.cx_service.proofs.queues.Queues.remove.Goals as goal

pub size-requires : goal.size-requires
size-requires c =
    let there : queue_of c.self.inside.queues.entries c.args.name ≡ Some c.in-Some.queue = sym c.in-Some.ensures.value in
    let part : size_of c.in-Some.queue ≤ data_of c.self.inside.queues.entries = size_within c.self.inside.queues.entries c.args.name c.in-Some.queue there in
    let light : data_of c.self.inside.queues.entries ≤ most_data = c.self.invariant.0.light in
    omega arith

pub overflow_sub-self : goal.overflow_sub-self
overflow_sub-self c =
    let there : queue_of c.self.inside.queues.entries c.args.name ≡ Some c.in-Some.queue = sym c.in-Some.ensures.value in
    let part : size_of c.in-Some.queue ≤ data_of c.self.inside.queues.entries = size_within c.self.inside.queues.entries c.args.name c.in-Some.queue there in
    let size : c.size.result ≡ size_of c.in-Some.queue = c.size.ensures in
    let total : c.self.inside.item_bytes ≡ data_of c.self.inside.queues.entries = c.self.invariant.1 in
    omega arith

pub invariant_of-self : goal.invariant_of-self
invariant_of-self c =
    let there : queue_of c.self.inside.queues.entries c.args.name ≡ Some c.in-Some.queue = sym c.in-Some.ensures.value in
    let apart = subst (λ es. IsDistinct is_name (keys_of es)) c.shift_remove.ensures.entries c.shift_remove.ensures.unique in
    let keeps = deleted_keeps c.self.inside.queues.entries c.args.name c.in-Some.queue c.self.invariant.0 there apart in
    rw (c.shift_remove.ensures.entries, c.size.ensures, c.self.invariant.1) (keeps.sound, keeps.all)

pub returns-in-Some-clause-sound : goal.returns-in-Some-clause-sound
returns-in-Some-clause-sound c =
    let there : queue_of c.self.inside.queues.entries c.args.name ≡ Some c.in-Some.queue = sym c.in-Some.ensures.value in
    let apart = subst (λ es. IsDistinct is_name (keys_of es)) c.shift_remove.ensures.entries c.shift_remove.ensures.unique in
    let keeps = deleted_keeps c.self.inside.queues.entries c.args.name c.in-Some.queue c.self.invariant.0 there apart in
    rw c.shift_remove.ensures.entries keeps.sound
