use Rattle.std.proofs.Common.{arith}
use Rattle.cx_storage_pages.proofs.DirectoryLemmas.{there_set_same, has_all_whole, page_filled}
use Rattle.cx_storage_pages.proofs.directory.fill_in.Goals as goal

pub returns-then-i-len-clause-gap : goal.returns-then-i-len-clause-gap
returns-then-i-len-clause-gap c = λ e.
    there_set_same c.args.pages.now.items _ c.index_mut-page.result.now c.fill.new.self (omega arith) c.index_mut-page.ensures.value (c.fill.ensures.gap e)

pub returns-then-i-len-clause-after : goal.returns-then-i-len-clause-after
returns-then-i-len-clause-after c = λ e.
    page_filled c.args.pages.now.items c.args.a c.args.n c.args.value c.index_mut-page.result.now c.fill.new.self (c.fill.ensures.fits e) (omega arith) c.index_mut-page.ensures.value (c.fill.ensures.after e)

pub returns-then-i-len-clause-present : goal.returns-then-i-len-clause-present
returns-then-i-len-clause-present c = λ e.
    has_all_whole c.args.pages.now.items c.args.a c.args.n c.index_mut-page.result.now (c.fill.ensures.fits e) (omega arith) c.index_mut-page.ensures.value (c.fill.ensures.present e)
