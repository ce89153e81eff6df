use Rattle.std.proofs.Common.{ℕ, ◌++◌, ap, append_assoc, arith, sym, ◌∙◌}
use Rattle.std.specs.List.{flat_map, range_with_len}
use Rattle.cx_look_lines.specs.Facts.Ranges.{of_next}
use Rattle.cx_look_lines.specs.Words.{Lines}
use Rattle.cx_look_storage.specs.Bytes.{row_line}
use Rattle.cx_look_storage.proofs.bytes.row_lines.Goals as goal

pub loop-k-preserved : goal.loop-k-preserved
loop-k-preserved c =
    let row : ℕ → Lines = row_line c.args.at c.args.bytes.now in
    let k = c.loop-k.k in
    c.in_ok-row_line.ensures
    ∙ ap (λ (t : Lines). t ++ row k) c.loop-k.invariant
    ∙ append_assoc c.args.report.now (flat_map row (range_with_len 0 k)) (row k)
    ∙ ap (λ (t : Lines). c.args.report.now ++ t) (sym (of_next row 0 k k (omega arith)))
