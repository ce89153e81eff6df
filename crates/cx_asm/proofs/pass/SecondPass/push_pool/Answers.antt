use Rattle.cx_asm_pass2.specs.Whole.{whole_by}
use Rattle.cx_asm.proofs.FitLemmas.{kept_fits}
use Rattle.cx_asm.proofs.JoinLemmas.{kept_more, pool_next}
use Rattle.cx_asm.proofs.pass.SecondPass.push_pool.Goals as goal

pub loop-index-preserved : goal.loop-index-preserved
loop-index-preserved c =
    kept_more c.args.self.now.keeps c.loop-index.standing _ _ _ _ _
    (rw c.literal.ensures at c.in_ok-push_literal.ensures)
    (pool_next (whole_by c.args.self.now.places.now) c.args.self.now.statements.now c.args.pool.now c.loop-index.index) c.loop-index.invariant

pub push_literal-requires : goal.push_literal-requires
push_literal-requires c =
    rw (c.literal.ensures)
    (kept_fits c.args.self.now.keeps c.loop-index.standing _ _ _ _ _ 65536 (pool_next (whole_by c.args.self.now.places.now) c.args.self.now.statements.now c.args.pool.now c.loop-index.index) c.loop-index.invariant c.requires)
