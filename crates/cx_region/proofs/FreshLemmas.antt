-- The region as it begins.
use Rattle.std.proofs.Common.{◌≡◌, ℕ, Option, Some, None, true, is_some, refl, arith, subst}
use Rattle.std.specs.Prelude.{[]}
use Rattle.cx_storage.specs.Storage.{Storage, with_area, put_held}
use Rattle.cx_storage.specs.Place.{CanPlace, IsLeastPlace}
use Rattle.cx_storage.specs.Facts.Places.{place_decides}
use Rattle.cx_region.specs.Defining.{fresh_region}
use Rattle.cx_storage.specs.declared.areas.Kind.TheVariants.{Fixed}

least : IsLeastPlace [] 0x001000 0x0011FF 512 (Some 0x001000)
unfolding IsLeastPlace CanPlace
least = ((refl, omega arith, omega arith, tt), λ b can. can.1)

-- in an empty storage the common work area's place is its address
pub cwa_place : (s : Storage) (start : Option ℕ) → s ≡ [] → IsLeastPlace s 0x001000 0x0011FF 512 start → with_area s start 512 (record { slot = 0; kind = Fixed }) ≡ fresh_region.shared.storage
unfolding with_area put_held
cwa_place s start empty place =
    let place_in : IsLeastPlace [] 0x001000 0x0011FF 512 start = subst (λ (t : Storage). IsLeastPlace t 0x001000 0x0011FF 512 start) empty place in
    let is : start ≡ Some 0x001000 = place_decides [] 0x001000 0x0011FF 512 start (Some 0x001000) place_in least in
    rw (empty, is) refl

-- where a place is found there is room
pub room : (s : Storage) (first last len : ℕ) (place : Option ℕ) → is_some place ≡ true → IsLeastPlace s first last len place → IsLeastPlace s first last len None → ⊥
room s first last len place some least none = let e = place_decides s first last len place None least none in cc
