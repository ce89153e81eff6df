use Rattle.std.proofs.Common.{◌<◌, ◌∙◌, length, ap, [], arith}
use Rattle.std.specs.Prelude.{slice_set}
use Rattle.std.proofs.Math.ListN.{get_or}
use Rattle.cx_base.specs.Texts.{shown_text}
use Rattle.cx_base.proofs.ShownLemmas.{one_more}
use Rattle.cx_base.proofs.pages.show_lines.Goals as goal

pub loop-i-preserved : goal.loop-i-preserved
loop-i-preserved c =
    let within : c.loop-i.i < length c.args.lines.now = omega (arith, c.loop-i-test.true, c.told-lines) in
    ap (λ v. slice_set c.loop-i.lines c.loop-i.i v) c.shown_bytes.ensures
    ∙ ap (λ l. slice_set l c.loop-i.i (shown_text (get_or l c.loop-i.i []))) c.loop-i.invariant
    ∙ one_more shown_text c.args.lines.now c.loop-i.i [] within
