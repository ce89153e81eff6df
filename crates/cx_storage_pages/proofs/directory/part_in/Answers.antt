use Rattle.std.proofs.Common.{arith}
use Rattle.std.proofs.lemmas.Bool.{false≢true}
use Rattle.cx_storage_pages.proofs.DirectoryLemmas.{some_gives_where, has_all_part, part_there, part_none}
use Rattle.cx_storage_pages.proofs.directory.part_in.Goals as goal

pub returns-then-i-len-clause-there : goal.returns-then-i-len-clause-there
returns-then-i-len-clause-there c =
    some_gives_where c.part.result _ _ _ (λ fits part each. part_there c.args.pages.now.items c.args.a c.args.n c.index.result.now part.now fits (omega arith) c.index.ensures each)
    c.part.ensures.there c.part.ensures.fits

pub returns-then-i-len-clause-gap : goal.returns-then-i-len-clause-gap
returns-then-i-len-clause-gap c = λ some fits all. c.part.ensures.gap some fits (has_all_part c.args.pages.now.items c.args.a c.args.n c.index.result.now some fits (omega arith) c.index.ensures all)

pub returns-else-i-len-clause-gap : goal.returns-else-i-len-clause-gap
returns-else-i-len-clause-gap c = λ some fits all. absurd (false≢true (part_none c.args.pages.now.items c.args.a c.args.n some (omega arith) all))
