-- What the laws of looks at storage state.
use Rattle.std.specs.Prelude.{◌≡◌, ℕ, ◌^◌, ◌<◌, ◌≤◌, ◌↔◌, true}
use Rattle.cx_storage.specs.Address.{address_after}
use Rattle.cx_storage.specs.Storage.{covers, end_of}
use Rattle.cx_storage.specs.declared.areas.Area.{Area}
use Rattle.cx_look_storage.specs.Uses.{is_met}

-- an area has the k-th of n bytes from an address on
pub record HasByte (address n : ℕ) (area : Area) : Type 0 where
  pub k : ℕ
  pub among : k < n
  pub covered : covers area (address_after address k) ≡ true

abbrev pub MeetsItsBytes : Type 0
MeetsItsBytes = (address n : ℕ) (area : Area) → address < 2 ^ 24 → 0 < n → 0 < area.len → end_of area ≤ 2 ^ 24
    → (is_met address n area ≡ true) ↔ HasByte address n area
