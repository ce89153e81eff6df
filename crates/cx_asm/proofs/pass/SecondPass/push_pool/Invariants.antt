use Rattle.std.proofs.Common.{◌≡◌, drop}
use Rattle.cx_asm_pass2.specs.Whole.{whole_by}
use Rattle.cx_asm.specs.Parts.Kept.{kept}
use Rattle.cx_asm.specs.Resolving.{pool_standing}
use Rattle.cx_asm.proofs.pass.SecondPass.push_pool.Given as goal

abbrev pub invariant-loop-index : goal.invariant-loop-index
invariant-loop-index l =
    kept l.self.keeps l.standing (pool_standing (whole_by l.self.places.now) l.self.statements.now (drop l.index l.pool))
    ≡ kept l.self.keeps l.initial.standing (pool_standing (whole_by l.self.places.now) l.self.statements.now l.pool)
