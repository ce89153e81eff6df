use Rattle.std.proofs.Common.{inl, inr, subst, sym}
use Rattle.std.specs.Prelude.{MatchBool}
use Rattle.cx_look_choices.specs.Rows.{IsSameKey}
use Rattle.cx_look_steps.specs.Facts.Lists.{below_next}
use Rattle.cx_look_choices.proofs.numbers.are_same_keys.Goals as goal

pub loop-number-preserved : goal.loop-number-preserved
loop-number-preserved g c =
    let number = c.loop-number.number in
    let same = IsSameKey (g.V.Seen.shows c.args.seen.now) c.args.choices.now.choices.items c.args.choices.now.one_number c.args.region.now
    c.args.from.now c.args.real.now in
    λ k l. elim (below_next k number l) [
      | inl m ↦ c.loop-number.invariant k m
      | inr e ↦ subst same (sym e) (subst (λ b. MatchBool b (same number) (same number → ⊥)) c.if-not-same.false c.in_ok-same.ensures)
    ]
