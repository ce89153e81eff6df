use Rattle.std.proofs.Common.{ℕ, ◌+◌, ◌++◌, ap, append_assoc, arith, sym, ◌∙◌}
use Rattle.std.specs.List.{flat_map, range_with_len}
use Rattle.cx_look_lines.specs.Facts.Ranges.{of_next}
use Rattle.cx_look_lines.specs.Words.{Lines}
use Rattle.cx_look_fields.specs.Addresses.{level_lines_at}
use Rattle.cx_look_fields.proofs.wheres.SoughtAddress.task_field_lines.Goals as goal

pub loop-k-preserved : goal.loop-k-preserved
loop-k-preserved c =
    let lines : ℕ → Lines = level_lines_at c.args.self.now.programs.now.entries c.args.self.now.sources.now c.args.self.now.address c.args.term c.args.task.now in
    let k = c.loop-k.k in
    c.in_ok-level_lines_at.ensures
    ∙ ap (λ (t : Lines). t ++ lines (k + 1)) c.loop-k.invariant
    ∙ append_assoc c.args.report.now (flat_map lines (range_with_len 1 k)) (lines (k + 1))
    ∙ ap (λ (t : Lines). c.args.report.now ++ t) (sym (of_next lines 1 k (k + 1) (omega arith)))
