use Rattle.std.proofs.Common.{◌≡◌, ◌+◌, ◌<◌, ◌∙◌, None, ap, sym, subst, arith}
use Rattle.std.specs.List.{IsDistinct}
use Rattle.std.specs.Map.{keys_of}
use Rattle.indexmap.specs.IndexMap.{insert_entry}
use Rattle.cx_service.specs.Resources.{is_resource, hold_of, count_at, enq_fault, enqueue}
use Rattle.cx_service.proofs.ResourceSound.{count_below, enqueued_keeps}
use Rattle.cx_service.proofs.enqueues.Enqueues.enq.Goals as goal

pub overflow_add-count : goal.overflow_add-count
overflow_add-count c =
    let below : count_at (hold_of c.args.self.now c.args.name.now) < 65535 = count_below c.args.self.now c.args.slot c.args.name.now (sym c.in_ok-can_enq.ensures) in
    let is : c.count-count.result ≡ count_at (hold_of c.args.self.now c.args.name.now) = c.count-count.ensures in
    omega arith

pub invariant_of-self-2 : goal.invariant_of-self-2
unfolding enqueue
invariant_of-self-2 c =
    let none : enq_fault c.self.inside.resources.entries c.args.slot c.args.name.now ≡ None = rw c.self.view_is (sym c.in_ok-can_enq.ensures) in
    let put : c.put_hold.new.resources.entries ≡ enqueue c.self.inside.resources.entries c.args.slot c.args.name.now =
    c.in_ok-put_hold.ensures.put
    ∙ ap (λ n. insert_entry is_resource c.self.inside.resources.entries c.args.name.now (record { owner = c.args.slot; count = n + 1 }))
    (c.count-count.ensures ∙ ap (λ rs. count_at (hold_of rs c.args.name.now)) (sym c.self.view_is)) in
    let apart : IsDistinct is_resource (keys_of (enqueue c.self.inside.resources.entries c.args.slot c.args.name.now)) =
    subst (λ es. IsDistinct is_resource (keys_of es)) put c.in_ok-put_hold.ensures.distinct in
    rw put (enqueued_keeps c.self.inside.resources.entries c.args.slot c.args.name.now c.self.invariant none apart)

pub returns-clause-enqueued : goal.returns-clause-enqueued
unfolding enqueue
returns-clause-enqueued c =
    c.in_ok-put_hold.ensures.put
    ∙ ap (λ rs. insert_entry is_resource rs c.args.name.now (record { owner = c.args.slot; count = c.count-count.result + 1 })) c.self.view_is
    ∙ ap (λ n. insert_entry is_resource c.args.self.now c.args.name.now (record { owner = c.args.slot; count = n + 1 })) c.count-count.ensures

pub returns-clause-sound : goal.returns-clause-sound
unfolding enqueue
returns-clause-sound c =
    let none : enq_fault c.self.inside.resources.entries c.args.slot c.args.name.now ≡ None = rw c.self.view_is (sym c.in_ok-can_enq.ensures) in
    let put : c.put_hold.new.resources.entries ≡ enqueue c.self.inside.resources.entries c.args.slot c.args.name.now =
    c.in_ok-put_hold.ensures.put
    ∙ ap (λ n. insert_entry is_resource c.self.inside.resources.entries c.args.name.now (record { owner = c.args.slot; count = n + 1 }))
    (c.count-count.ensures ∙ ap (λ rs. count_at (hold_of rs c.args.name.now)) (sym c.self.view_is)) in
    let apart : IsDistinct is_resource (keys_of (enqueue c.self.inside.resources.entries c.args.slot c.args.name.now)) =
    subst (λ es. IsDistinct is_resource (keys_of es)) put c.in_ok-put_hold.ensures.distinct in
    rw put (enqueued_keeps c.self.inside.resources.entries c.args.slot c.args.name.now c.self.invariant none apart)
