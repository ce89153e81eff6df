use Rattle.cx_storage_pages.proofs.SlotLemmas.{none_kept}
use Rattle.cx_storage_pages.proofs.keeping.KeepingStore.new.Goals as goal

pub invariant_of-result : goal.invariant_of-result
invariant_of-result g c = record {
  placed = λ i h low. absurd (none_kept i h low);
  within = λ i h low. absurd (none_kept i h low);
  stored = λ i h low. absurd (none_kept i h low);
}
