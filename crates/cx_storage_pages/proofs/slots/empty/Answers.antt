use Rattle.cx_storage_pages.proofs.SlotLemmas.{none_kept}
use Rattle.cx_storage_pages.proofs.slots.empty.Goals as goal

pub returns : goal.returns
returns c = λ i h low. absurd (none_kept i h low)
