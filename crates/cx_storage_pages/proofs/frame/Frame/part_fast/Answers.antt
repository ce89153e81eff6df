use Rattle.std.proofs.Common.{◌∙◌, arith}
use Rattle.std.proofs.lemmas.Grind.{common_steps}
use Rattle.std.proofs.lemmas.Option.{gets}
use Rattle.cx_storage_pages.proofs.FrameLemmas.{seen_byte}
use Rattle.cx_storage_pages.proofs.frame.Frame.part_fast.Goals as goal

pub returns-then-holds_few-clause-there : goal.returns-then-holds_few-clause-there
returns-then-holds_few-clause-there c = λ k low high.
    seen_byte c.args.self.now k (c.holds_few.ensures.all c.if-holds_few.true k low high) ∙ grind (arith, common_steps, gets)
