use Rattle.cx_storage_pages.proofs.SlotLemmas.{stored_after_set}
use Rattle.cx_storage_pages.proofs.keeping.KeepingStoreStore.set.Goals as goal

pub invariant_of-self-clause-stored : goal.invariant_of-self-clause-stored
invariant_of-self-clause-stored g c =
    let self = c.args.self.now in
    rw c.set.ensures.after (stored_after_set (g.S.Store.storage self.store) self.slots c.forget.new.slots self.bytes self.first self.end c.args.a c.args.value
    self.stored self.within c.forget.ensures c.requires)
