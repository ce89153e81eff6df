use Rattle.std.proofs.Common.{◌∙◌, ap}
use Rattle.std.specs.Prelude.{slice_set}
use Rattle.std.proofs.Math.ListN.{get_or}
use Rattle.cx_ebcdic.specs.Characters.{shown_as}
use Rattle.cx_base.proofs.ShownLemmas.{one_more, all_mapped}
use Rattle.cx_base.proofs.texts.show.Goals as goal

pub loop-i-preserved : goal.loop-i-preserved
loop-i-preserved c =
    ap (λ v. slice_set c.loop-i.bytes c.loop-i.i v) c.shown_byte.ensures
    ∙ ap (λ l. slice_set l c.loop-i.i (shown_as (get_or l c.loop-i.i 0))) c.loop-i.invariant
    ∙ one_more shown_as c.args.bytes.now c.loop-i.i 0 c.loop-i-test.true

pub returns : goal.returns
returns c = c.loop-i.invariant ∙ all_mapped shown_as c.args.bytes.now c.loop-i.i c.loop-i-test.false
