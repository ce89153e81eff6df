use Rattle.std.proofs.Common.{arith, length}
use Rattle.cx_storage_pages.proofs.DirectoryLemmas.{there_set_same, has_all_whole, page_written}
use Rattle.cx_storage_pages.proofs.directory.write_in.Goals as goal

pub returns-then-i-len-clause-gap : goal.returns-then-i-len-clause-gap
returns-then-i-len-clause-gap c = λ e.
    there_set_same c.args.pages.now.items _ c.index_mut-page.result.now c.write.new.self (omega arith) c.index_mut-page.ensures.value (c.write.ensures.gap e)

pub returns-then-i-len-clause-after : goal.returns-then-i-len-clause-after
returns-then-i-len-clause-after c = λ e.
    page_written c.args.pages.now.items c.args.a c.index_mut-page.result.now c.write.new.self c.args.source.now (c.write.ensures.fits e) (omega arith) c.index_mut-page.ensures.value (c.write.ensures.after e)

pub returns-then-i-len-clause-present : goal.returns-then-i-len-clause-present
returns-then-i-len-clause-present c = λ e.
    has_all_whole c.args.pages.now.items c.args.a (length c.args.source.now) c.index_mut-page.result.now (c.write.ensures.fits e) (omega arith) c.index_mut-page.ensures.value (c.write.ensures.present e)
