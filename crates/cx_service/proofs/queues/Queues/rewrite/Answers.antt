use Rattle.std.proofs.Common.{◌≡◌, ◌≤◌, ◌∙◌, None, ap, sym, length, arith}
use Rattle.std.specs.Prelude.{unwrap_or}
use Rattle.cx_service.specs.Queues.{rewrite_fault, item_len_of, data_of, with_item_at}
use Rattle.cx_service.proofs.QueueSound.{rewritten_keeps, rewrite_facts}
use Rattle.cx_service.proofs.queues.Queues.rewrite.Goals as goal

pub overflow_sub-self : goal.overflow_sub-self
overflow_sub-self c =
    let part : unwrap_or (item_len_of c.self.inside.queues.entries c.args.name c.args.n) 0 ≤ data_of c.self.inside.queues.entries = rewrite_facts c.self.inside.queues.entries c.args.name c.args.n 0 c.self.invariant.0 in
    let old_len : c.unwrap_or-old_len.result ≡ unwrap_or (item_len_of c.self.inside.queues.entries c.args.name c.args.n) 0 =
    c.unwrap_or-old_len.ensures ∙ ap (λ o. unwrap_or o 0) c.item_len.ensures ∙ ap (λ qs. unwrap_or (item_len_of qs c.args.name c.args.n) 0) (sym c.self.view_is) in
    let total : c.self.inside.item_bytes ≡ data_of c.self.inside.queues.entries = c.self.invariant.1 in
    omega arith

pub invariant_of-self : goal.invariant_of-self
invariant_of-self c =
    let none : rewrite_fault c.self.inside.queues.entries c.args.name c.args.n (length c.args.bytes.now) ≡ None = rw c.self.view_is (sym c.in_ok-can_rewrite.ensures) in
    let keeps = rewritten_keeps c.self.inside.queues.entries c.args.name c.args.n c.args.bytes.now c.self.invariant.0 none in
    let old_len : c.unwrap_or-old_len.result ≡ unwrap_or (item_len_of c.self.inside.queues.entries c.args.name c.args.n) 0 =
    c.unwrap_or-old_len.ensures ∙ ap (λ o. unwrap_or o 0) c.item_len.ensures ∙ ap (λ qs. unwrap_or (item_len_of qs c.args.name c.args.n) 0) (sym c.self.view_is) in
    let put : c.put_at.new.queues.entries ≡ with_item_at c.self.inside.queues.entries c.args.name c.args.n c.args.bytes.now =
    c.put_at.ensures ∙ ap (λ i. with_item_at c.self.inside.queues.entries c.args.name c.args.n i) c.in_ok-item.ensures in
    rw (put, old_len, c.self.invariant.1) (keeps.sound, keeps.all)

pub returns-clause-sound : goal.returns-clause-sound
returns-clause-sound c =
    let none : rewrite_fault c.self.inside.queues.entries c.args.name c.args.n (length c.args.bytes.now) ≡ None = rw c.self.view_is (sym c.in_ok-can_rewrite.ensures) in
    let keeps = rewritten_keeps c.self.inside.queues.entries c.args.name c.args.n c.args.bytes.now c.self.invariant.0 none in
    let put : c.put_at.new.queues.entries ≡ with_item_at c.self.inside.queues.entries c.args.name c.args.n c.args.bytes.now =
    c.put_at.ensures ∙ ap (λ i. with_item_at c.self.inside.queues.entries c.args.name c.args.n i) c.in_ok-item.ensures in
    rw put keeps.sound
