use Rattle.std.proofs.Common.{◌≡◌, ℕ, drop, None, if◌then◌else◌}
use Rattle.cx_storage.specs.Storage.{is_of_other_slot}
use Rattle.cx_storage_pages.specs.Pages.{byte_in_pages}
use Rattle.cx_storage_pages.proofs.ChangeLemmas.{goes_in}
use Rattle.cx_storage_pages.proofs.store.free_slot_of.Given as goal

-- with the areas to come cleared too, all of the slot's are
abbrev pub invariant-loop-area : goal.invariant-loop-area
invariant-loop-area l =
    ((x : ℕ) → (if goes_in (is_of_other_slot l.slot) (drop l.area-index l.fn.areas.items) x then None else byte_in_pages l.pages.items x)
    ≡ (if goes_in (is_of_other_slot l.slot) l.fn.areas.items x then None else byte_in_pages l.initial.pages.items x))
    × ((x : ℕ) → byte_in_pages l.initial.pages.items x ≡ None → byte_in_pages l.pages.items x ≡ None)
