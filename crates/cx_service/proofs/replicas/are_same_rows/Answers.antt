use Rattle.std.proofs.Common.{◌∙◌, sym, arith}
use Rattle.std.proofs.lemmas.Bool.Decides.{Decides-eqb}
use Rattle.std.proofs.lemmas.List.{take_more_same}
use Rattle.std.proofs.lemmas.Slice.Eq.{slice_eq-Decides}
use Rattle.cx_service.proofs.replicas.are_same_rows.Goals as goal

pub loop-i-preserved : goal.loop-i-preserved
loop-i-preserved c =
    let same = (slice_eq-Decides Decides-eqb _ _ _ c.eq-is_same.ensures).0 c.if-not-is_same.false in
    take_more_same c.args.ones.now c.args.others.now c.loop-i.i _ (omega arith) (omega arith) c.loop-i.invariant (sym c.as_slice.ensures ∙ same ∙ c.as_slice-in-loop-i.ensures)
