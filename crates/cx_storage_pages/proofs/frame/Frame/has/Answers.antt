use Rattle.std.proofs.Common.{◌≡◌, ◌∙◌, sym, true, false, arith}
use Rattle.cx_storage_pages.proofs.ReachLemmas.{row_all, row_gap}
use Rattle.cx_storage_pages.proofs.frame.Frame.has.Goals as goal

pub returns-then-has_row-clause-all : goal.returns-then-has_row-clause-all
returns-then-has_row-clause-all c = λ _.
    let holds : c.has_row.result ≡ true = cc in
    row_all c.args.self.now c.args.from c.args.to (omega arith) (omega arith) (sym c.has_row.ensures ∙ holds)

pub returns-then-to-from-le16-clause-gap : goal.returns-then-to-from-le16-clause-gap
returns-then-to-from-le16-clause-gap c = λ all.
    let holds : c.has_row.result ≡ false = cc in
    sym holds ∙ c.has_row.ensures ∙ row_gap c.args.self.now c.args.from c.args.to (omega arith) (omega arith) all
