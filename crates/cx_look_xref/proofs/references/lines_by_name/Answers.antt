use Rattle.std.proofs.Math.Path.{fun_ext}
use Rattle.cx_look_xref.proofs.StepLemmas.{name_step, names_done}
use Rattle.cx_look_xref.proofs.references.lines_by_name.Goals as goal

pub loop-reference-preserved : goal.loop-reference-preserved
loop-reference-preserved c =
    λ name. name_step name c.args.references.now c.loop-reference.reference-index _ _ _ _ _ c.loop-reference-test.true c.reference-item.is (c.in_ok-put_name.ensures name)
    (c.loop-reference.invariant name)

pub returns : goal.returns
returns c =
    fun_ext
    (λ name. names_done name c.args.references.now c.loop-reference.reference-index _ _ c.loop-reference-test.false (c.loop-reference.invariant name))
