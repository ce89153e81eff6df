use Rattle.std.proofs.Common.{◌/◌, arith}
use Rattle.std.proofs.lemmas.Bool.{ltb-true}
use Rattle.cx_storage_pages.proofs.FrameLemmas.{has_all}
use Rattle.cx_storage_pages.proofs.ReachLemmas.{more_full}
use Rattle.cx_storage_pages.proofs.frame.Frame.has_each.Goals as goal

pub full-preserved : goal.full-preserved
full-preserved c =
    let full = c.if-count-lt16.false in
    more_full c.args.self.now.counts (c.args.from / 16) c.full.g c.args.self.now.reached (omega (arith, full)) c.full.invariant.0 c.full.invariant.1

pub returns-clause-all : goal.returns-clause-all
returns-clause-all c = λ counted.
    let past = c.full-test.false in
    has_all c.args.self.now c.args.from c.args.to (omega arith) (omega arith)
    (λ j low high. c.full.invariant.1 j low (omega (arith, high, past)))
    (ltb-true _ _ counted)
