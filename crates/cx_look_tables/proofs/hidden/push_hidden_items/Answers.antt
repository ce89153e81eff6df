use Rattle.std.proofs.Common.{ℕ, ◌+◌, ◌++◌, ap, append_assoc, arith, sym, ◌∙◌}
use Rattle.std.specs.List.{flat_map, range_with_len}
use Rattle.cx_look_lines.specs.Facts.Ranges.{of_next}
use Rattle.cx_look_lines.specs.Words.{Lines}
use Rattle.cx_look_tables.specs.Hidden.{hidden_item}
use Rattle.cx_look_tables.proofs.hidden.push_hidden_items.Goals as goal

pub loop-k-preserved : goal.loop-k-preserved
loop-k-preserved c =
    let item : ℕ → Lines = λ k. hidden_item c.args.queues.now c.args.name (k + 1) in
    let k = c.loop-k.k in
    c.in_ok-hidden_item.ensures
    ∙ ap (λ (t : Lines). t ++ item k) c.loop-k.invariant
    ∙ append_assoc c.args.report.now (flat_map item (range_with_len 0 k)) (item k)
    ∙ ap (λ (t : Lines). c.args.report.now ++ t) (sym (of_next item 0 k k (omega arith)))
