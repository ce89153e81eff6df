use Rattle.std.proofs.Common.{arith}
use Rattle.cx_storage_pages.proofs.DirectoryLemmas.{some_gives, skips_in}
use Rattle.cx_storage_pages.proofs.directory.tail_in.Goals as goal

pub returns-then-i-len : goal.returns-then-i-len
returns-then-i-len c =
    some_gives c.tail.result _ _ (λ tail skips. skips_in c.args.pages.now.items c.args.i c.args.need tail c.index.result.now (omega arith) c.index.ensures skips) c.tail.ensures
