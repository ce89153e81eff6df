use Rattle.std.proofs.Common.{◌∙◌, arith}
use Rattle.std.proofs.lemmas.Grind.{common_steps}
use Rattle.std.proofs.lemmas.Option.{gets}
use Rattle.cx_storage_pages.proofs.FrameLemmas.{seen_byte}
use Rattle.cx_storage_pages.proofs.frame.Frame.part.Goals as goal

pub returns-then-holds-clause-there : goal.returns-then-holds-clause-there
returns-then-holds-clause-there c = λ k low high.
    seen_byte c.args.self.now k (c.holds.ensures.all c.if-holds.true k low high) ∙ grind (arith, common_steps, gets)
