use Rattle.std.proofs.Common.{◌∙◌, sym, ap, arith}
use Rattle.cx_translate.proofs.PieceLemmas.{cut_step, on_step}
use Rattle.cx_translate.proofs.pieces.pieces_in.Goals.{then-ends+in_ok-push_ended, else-ends}
use Rattle.cx_translate.proofs.pieces.pieces_in.Goals as goal

pub loop-i-preserved : goal.loop-i-preserved
loop-i-preserved c = elim c.if-ends.branch [
  | then-ends+in_ok-push_ended w ↦ record {
    shallow = omega arith;
    begun = omega arith;
    goes_on = rw w.start-is (cut_step c.loop-i.pieces.items _ _ c.loop-i.depth _ c.args.text.now c.args.marks.now c.loop-i.start c.loop-i.i c.requires (omega arith) (sym c.is_cut-ends.ensures ∙ w.if-ends.true) c.depth_after-depth.ensures.value (ap (λ v. v.items) w.pieces-is ∙ w.in_ok-push_ended.ensures) c.loop-i.invariant.goes_on);
  }
  | else-ends w ↦ record {
    shallow = omega arith;
    begun = omega arith;
    goes_on = rw (w.start-is, w.pieces-is) (on_step c.loop-i.pieces.items _ c.loop-i.depth _ c.args.text.now c.args.marks.now c.loop-i.start c.loop-i.i c.requires (omega arith) (omega arith) (sym c.is_cut-ends.ensures ∙ w.if-ends.false) c.depth_after-depth.ensures.value c.loop-i.invariant.goes_on);
  }
]
