use Rattle.cx_storage_pages.proofs.SlotLemmas.{none_kept}
use Rattle.cx_storage_pages.proofs.keeping.KeepingStore.forget_all.Goals as goal

pub invariant_of-self : goal.invariant_of-self
invariant_of-self g c = record {
  placed = λ i h low. absurd (none_kept i h low);
  within = λ i h low. absurd (none_kept i h low);
  stored = λ i h low. absurd (none_kept i h low);
}
