use Rattle.cx_storage.specs.Storage.{is_of_other_slot}
use Rattle.cx_storage.specs.Facts.Aligned.{aligned_with_areas_kept}
use Rattle.cx_storage.proofs.flat.FlatStoreStore.free_slot.Goals as goal

pub invariant_of-self-clause-at_multiples : goal.invariant_of-self-clause-at_multiples
invariant_of-self-clause-at_multiples c =
    let self = c.args.self.now in rw c.drop_slot.ensures.after (aligned_with_areas_kept self.blocks.items (is_of_other_slot c.args.slot) self.at_multiples)
