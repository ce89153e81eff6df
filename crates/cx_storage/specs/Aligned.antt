-- Where areas start (this product's own): every new area goes to a multiple of 16, so each area starts at one.
use Rattle.std.specs.Prelude.{◌≡◌, ◌%◌}
use Rattle.std.specs.List.{AllByRecursion}
use Rattle.cx_storage.specs.Storage.{Storage}

-- each area starts at a multiple of 16
unfoldable pub AreAligned : Storage → Type 0
AreAligned s = AllByRecursion (λ h. h.area.start % 16 ≡ 0) s
