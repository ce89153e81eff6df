use Rattle.std.proofs.Common.{inl, inr, arith}
use Rattle.cx_exec.proofs.TranslationLemmas.{lent_translated}
use Rattle.cx_exec.proofs.translation.translate_lent.Goals as goal
use Rattle.cx_exec.proofs.translation.translate_lent.Goals.{else-at-n-via-then-at-n+else-at, else-at-n-via-else-at-n}

pub returns : goal.returns
returns g c _ =
    lent_translated _ _ _ _ _ _ _ c.args.at.first c.args.at.second c.in-Some.ensures.no_wrap c.in-Some-slice.ensures.no_wrap
    (elim c.else-at-n.branch [
      | else-at-n-via-then-at-n+else-at w ↦ inr (omega (arith, w.if-at.false))
      | else-at-n-via-else-at-n w ↦ inl (omega (arith, w.if-at-n.false))
    ])
    c.in-Some.ensures.bytes c.in-Some-slice.ensures.bytes c.look_up.array_long c.requires.count c.look_up.ensures
