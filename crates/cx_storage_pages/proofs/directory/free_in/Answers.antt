use Rattle.std.proofs.Common.{◌∙◌, ◌+◌, ◌-◌, ◌%◌, arith}
use Rattle.cx_storage_pages.proofs.DirectoryLemmas.{granule_at, granule_past}
use Rattle.cx_storage_pages.proofs.directory.free_in.Goals as goal

pub returns-then-i-len-clause-free : goal.returns-then-i-len-clause-free
returns-then-i-len-clause-free c = λ j low high.
    let k = j - (c.args.g - c.args.g % 256) in
    granule_at c.args.pages.now.items c.args.g j k c.index.result.now (omega arith) c.index.ensures (omega (arith, low)) (omega (arith, high, c.free_to.ensures.within))
    ∙ c.free_to.ensures.free k (omega (arith, low)) (omega (arith, high))

pub returns-then-i-len-clause-taken : goal.returns-then-i-len-clause-taken
returns-then-i-len-clause-taken c = λ before.
    rw (granule_at c.args.pages.now.items c.args.g (c.args.g - c.args.g % 256 + c.free_to.result) c.free_to.result c.index.result.now (omega arith) c.index.ensures (omega arith) (omega (arith, before)))
    (c.free_to.ensures.taken (omega (arith, before)))

pub returns-else-i-len-clause-free : goal.returns-else-i-len-clause-free
returns-else-i-len-clause-free c = λ j low high. granule_past c.args.pages.now.items c.args.g j (omega arith) low
