use Rattle.std.proofs.Common.{◌≡◌, ◌∙◌, arith}
use Rattle.cx_storage_snapshot.proofs.WriteLemmas.{piece_written}
use Rattle.cx_storage_snapshot.proofs.writing.fill.Goals as goal

pub loop-k-preserved : goal.loop-k-preserved
loop-k-preserved g c = (
  omega arith,
  λ others later old before after full is.
      rw (c.loop-k.invariant.1 others later old before after full is) at c.write_new.ensures
      ∙ piece_written others later c.args.area c.args.bytes.now old c.loop-k.k c.piece-n.result before after c.requires.size full c.requires.below (omega arith) c.piece-n.ensures.above_0,
)

pub returns : goal.returns
returns g c = λ others later old before after full is. let done : c.loop-k.k ≡ c.args.area.len = omega (arith, c.loop-k.invariant.0) in rw done at (c.loop-k.invariant.1 others later old before after full is)
