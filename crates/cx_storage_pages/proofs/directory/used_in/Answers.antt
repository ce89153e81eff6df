use Rattle.std.proofs.Common.{◌∙◌, ◌-◌, ◌%◌, ap, is_some, sym, arith}
use Rattle.cx_storage_pages.proofs.DirectoryLemmas.{granule_at}
use Rattle.cx_storage_pages.proofs.directory.used_in.Goals as goal

pub used_to-requires-clause-taken : goal.used_to-requires-clause-taken
used_to-requires-clause-taken c =
    sym (ap is_some (granule_at c.args.pages.now.items c.args.g c.args.g (c.args.g % 256) c.index.result.now (omega arith) c.index.ensures (omega arith) (omega arith))) ∙ c.requires.taken

pub returns-then-i-len-clause-taken : goal.returns-then-i-len-clause-taken
returns-then-i-len-clause-taken c = λ j low high.
    let k = j - (c.args.g - c.args.g % 256) in
    ap is_some (granule_at c.args.pages.now.items c.args.g j k c.index.result.now (omega arith) c.index.ensures (omega (arith, low)) (omega (arith, high, c.used_to.ensures.within)))
    ∙ c.used_to.ensures.taken k (omega (arith, low)) (omega (arith, high))
