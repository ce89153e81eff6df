use Rattle.cx_storage.specs.Facts.Aligned.{aligned_with_byte}
use Rattle.cx_storage.proofs.flat.FlatStoreStore.set.Goals as goal

pub invariant_of-self-clause-at_multiples : goal.invariant_of-self-clause-at_multiples
invariant_of-self-clause-at_multiples c =
    let self = c.args.self.now in rw c.set_in.ensures.after (aligned_with_byte self.blocks.items c.args.a c.args.value self.at_multiples)
