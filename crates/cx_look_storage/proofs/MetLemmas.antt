-- Which areas have bytes from an address on.
use Rattle.std.proofs.Common.{◌≡◌, ℕ, ◌<◌, ◌≤◌, ◌^◌, ◌⊎◌, inl, inr, true, arith}
use Rattle.std.proofs.lemmas.Bool.{or_cases, or_left, or_right, ltb-true, lt-ltb}
use Rattle.cx_storage.specs.Address.{address_after, distance}
use Rattle.cx_storage.specs.Facts.Sound.{covers_cases, covers_from}
use Rattle.cx_storage.specs.Storage.{end_of}
use Rattle.cx_storage.specs.declared.areas.Area.{Area}
use Rattle.cx_look_storage.specs.Laws.{HasByte}
use Rattle.cx_look_storage.specs.Uses.{is_met}

-- an address is at its distance from another
back : (a x : ℕ) → a < 2 ^ 24 → x < 2 ^ 24 → address_after a (distance a x) ≡ x
back a x la lx = omega arith

-- and what is k bytes past it is no farther than k
near : (a k : ℕ) → a < 2 ^ 24 → distance a (address_after a k) ≤ k
near a k la = omega arith

here : (a : ℕ) → a < 2 ^ 24 → address_after a 0 ≡ a
here a la = omega arith

-- from an address that an area doesn't have, its start comes before its other bytes
first : (a start end x : ℕ) → a < 2 ^ 24 → end ≤ 2 ^ 24 → start ≤ x → x < end → (a < start) ⊎ (end ≤ a) → distance a start ≤ distance a x
first a start end x la le low high (inl before) = omega arith
first a start end x la le low high (inr after) = omega arith

to_byte : (address n : ℕ) (area : Area) → address < 2 ^ 24 → 0 < n → 0 < area.len → end_of area ≤ 2 ^ 24 → is_met address n area ≡ true → HasByte address n area
to_byte address n area la some nonempty below met = elim (or_cases _ _ met) [
  | inl c ↦ record { k = 0; among = some; covered = rw (here address la) c }
  | inr c ↦ record {
    k = distance address area.start;
    among = ltb-true _ _ c;
    covered = rw (back address area.start la (omega arith)) (covers_from area area.start (omega arith) (omega arith));
  }
]

from_byte : (address n : ℕ) (area : Area) → address < 2 ^ 24 → end_of area ≤ 2 ^ 24 → HasByte address n area → is_met address n area ≡ true
from_byte address n area la below has = elim (covers_cases area address) [
  | inl c ↦ or_left _ _ c.0
  | inr c ↦ elim (covers_cases area (address_after address has.k)) [
    | inl d ↦
        let closer = first address area.start (end_of area) (address_after address has.k) la below d.1 d.2 c.1 in
        let within = near address has.k la in
        or_right _ _ (lt-ltb (distance address area.start) n (omega (arith, closer, within, has.among)))
    | inr d ↦ absurd (cc (d.0, has.covered))
  ]
]

pub met_by_bytes : (address n : ℕ) (area : Area) → address < 2 ^ 24 → 0 < n → 0 < area.len → end_of area ≤ 2 ^ 24
    → (is_met address n area ≡ true → HasByte address n area) × (HasByte address n area → is_met address n area ≡ true)
met_by_bytes address n area la some nonempty below = (to_byte address n area la some nonempty below, from_byte address n area la below)
