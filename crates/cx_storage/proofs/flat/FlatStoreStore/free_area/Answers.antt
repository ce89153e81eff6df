use Rattle.cx_storage.specs.Storage.{starts_elsewhere}
use Rattle.cx_storage.specs.Facts.Aligned.{aligned_with_areas_kept}
use Rattle.cx_storage.proofs.flat.FlatStoreStore.free_area.Goals as goal

pub invariant_of-self-clause-at_multiples : goal.invariant_of-self-clause-at_multiples
invariant_of-self-clause-at_multiples c =
    let self = c.args.self.now in rw c.drop_at.ensures.after (aligned_with_areas_kept self.blocks.items (starts_elsewhere c.args.start) self.at_multiples)
