use Rattle.std.proofs.Common.{◌≡◌, ◌≤◌, ◌∙◌, ap, sym, arith}
use Rattle.std.specs.Prelude.{unwrap_or}
use Rattle.cx_service.specs.Queues.{item_len_of, data_of}
use Rattle.cx_service.proofs.QueueSound.{rewrite_facts}
use Rattle.cx_service.proofs.queues.Queues.can_rewrite.Goals as goal

pub overflow_sub-self-inside : goal.overflow_sub-self-inside
overflow_sub-self-inside c =
    let part : unwrap_or (item_len_of c.self.inside.queues.entries c.args.name c.args.n) 0 ≤ data_of c.self.inside.queues.entries = rewrite_facts c.self.inside.queues.entries c.args.name c.args.n 0 c.self.invariant.0 in
    let old_len : c.in-Some.old_len ≡ unwrap_or (item_len_of c.self.inside.queues.entries c.args.name c.args.n) 0 =
    ap (λ o. unwrap_or o 0) (sym c.in-Some.is ∙ c.item_len.ensures) ∙ ap (λ qs. unwrap_or (item_len_of qs c.args.name c.args.n) 0) (sym c.self.view_is) in
    let total : c.self.inside.item_bytes ≡ data_of c.self.inside.queues.entries = c.self.invariant.1 in
    omega arith
