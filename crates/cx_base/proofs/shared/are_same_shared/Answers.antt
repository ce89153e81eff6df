use Rattle.std.proofs.Common.{◌∙◌, refl, arith, sym}
use Rattle.cx_base.proofs.SharedLemmas.{value_at, values_more}
use Rattle.cx_base.proofs.shared.are_same_shared.Goals as goal

pub returns-then-not-is_same : goal.returns-then-not-is_same
returns-then-not-is_same g c = (
  λ h. cc,
  λ e.
      let same = value_at c.args.ones.now c.args.others.now c.loop-i.i c.index-ones-i.result c.index-others-i.result (omega arith) (omega arith) c.index-ones-i.is c.index-others-i.is e in
      c.if-not-is_same.ensures.1 (c.deref.ensures ∙ same ∙ sym c.deref-in-loop-i.ensures),
)

pub loop-i-preserved : goal.loop-i-preserved
loop-i-preserved g c =
    values_more c.args.ones.now c.args.others.now c.loop-i.i c.index-ones-i.result c.index-others-i.result (omega arith) (omega arith) c.index-ones-i.is c.index-others-i.is
    (sym c.deref.ensures ∙ c.if-not-is_same.ensures.0 refl ∙ c.deref-in-loop-i.ensures) c.loop-i.invariant
