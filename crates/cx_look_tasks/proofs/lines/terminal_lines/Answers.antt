use Rattle.std.proofs.Common.{Some, sym, ap, ◌∙◌}
use Rattle.std.proofs.lemmas.Option.{slice_get-get_or}
use Rattle.cx_look_tasks.specs.Parts.Words.{line_of}
use Rattle.cx_look_tasks.proofs.TextLemmas.{each_done, each_goes_on}
use Rattle.cx_look_tasks.proofs.lines.terminal_lines.Goals as goal

pub loop-i-preserved : goal.loop-i-preserved
loop-i-preserved g c =
    each_goes_on (line_of c.args.region.now c.args.line.now) c.args.region.now.terminals c.args.activities.now c.loop-i.i c.index-activities-i.result _ _ _
    (slice_get-get_or _ _ _ c.loop-i-test.true ∙ ap (λ x. Some x) (sym c.index-activities-i.is)) c.in_ok-line_at.ensures c.loop-i.invariant

pub returns : goal.returns
returns g c =
    each_done (line_of c.args.region.now c.args.line.now) c.args.region.now.terminals c.args.activities.now c.loop-i.i _ _ c.loop-i-test.false c.loop-i.invariant
