use Rattle.std.proofs.Common.{◌∙◌, arith}
use Rattle.cx_storage_pages.proofs.DirectoryLemmas.{there_push, there_set_same, has_push, has_set_elsewhere, made_more}
use Rattle.cx_storage_pages.proofs.directory.make_in.Goals as goal

pub loop-pages-preserved : goal.loop-pages-preserved
loop-pages-preserved c = rw c.in_ok-push.ensures.items (
  λ x. there_push c.loop-pages.pages.items c.new.result x c.new.ensures.bytes ∙ c.loop-pages.invariant.0 x,
  λ i. has_push c.loop-pages.pages.items c.new.result i c.new.ensures.made ∙ c.loop-pages.invariant.1 i,
)

pub returns-in_err-make-clause-same : goal.returns-in_err-make-clause-same
returns-in_err-make-clause-same c = λ x.
    there_set_same c.loop-i.pages.items c.loop-i.i c.index_mut-page.result.now c.make.new.self (omega arith) c.index_mut-page.ensures.value c.make.ensures.same x
    ∙ c.loop-i.invariant.1 x

pub returns-in_err-make-clause-before : goal.returns-in_err-make-clause-before
returns-in_err-make-clause-before c = λ i low. has_set_elsewhere c.loop-i.pages.items c.loop-i.i c.make.new.self i (omega arith) (omega (arith, low)) ∙ c.loop-i.invariant.3 i low

pub loop-i-preserved : goal.loop-i-preserved
loop-i-preserved c = (
  c.loop-i.invariant.0,
  λ x. there_set_same c.loop-i.pages.items c.loop-i.i c.index_mut-page.result.now c.make.new.self (omega arith) c.index_mut-page.ensures.value c.make.ensures.same x
      ∙ c.loop-i.invariant.1 x,
  made_more c.loop-i.pages.items c.args.first c.loop-i.i c.make.new.self (omega arith) c.in_ok-make.ensures.made c.loop-i.invariant.2,
  λ i low. has_set_elsewhere c.loop-i.pages.items c.loop-i.i c.make.new.self i (omega arith) (omega (arith, low)) ∙ c.loop-i.invariant.3 i low,
)
