use Rattle.std.proofs.Common.{arith}
use Rattle.cx_storage_pages.proofs.DirectoryLemmas.{has_all_in, has_all_out, has_none}
use Rattle.cx_storage_pages.proofs.directory.has_in.Goals as goal

pub returns-then-i-len-clause-all : goal.returns-then-i-len-clause-all
returns-then-i-len-clause-all c = λ e. has_all_out c.args.pages.now.items c.args.a c.args.end c.index.result.now c.requires.order c.requires.together (omega arith) c.index.ensures (c.has.ensures.all e)

pub returns-then-i-len-clause-gap : goal.returns-then-i-len-clause-gap
returns-then-i-len-clause-gap c = λ all. c.has.ensures.gap (has_all_in c.args.pages.now.items c.args.a c.args.end c.index.result.now c.requires.order c.requires.together (omega arith) c.index.ensures all)

pub returns-else-i-len-clause-gap : goal.returns-else-i-len-clause-gap
returns-else-i-len-clause-gap c = has_none c.args.pages.now.items c.args.a c.args.end c.requires.order (omega arith)
