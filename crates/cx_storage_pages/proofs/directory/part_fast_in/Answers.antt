use Rattle.std.proofs.Common.{arith}
use Rattle.cx_storage_pages.proofs.DirectoryLemmas.{some_gives_where, part_there}
use Rattle.cx_storage_pages.proofs.directory.part_fast_in.Goals as goal

pub returns-then-i-len-clause-there : goal.returns-then-i-len-clause-there
returns-then-i-len-clause-there c =
    some_gives_where c.part_fast.result _ _ _ (λ fits part each. part_there c.args.pages.now.items c.args.a c.args.n c.index.result.now part.now fits (omega arith) c.index.ensures each)
    c.part_fast.ensures.there c.part_fast.ensures.fits
