-- Between an address without a byte and the next area there is none.
use Rattle.std.proofs.Common.{refl, inl, inr, arith}
use Rattle.std.proofs.lemmas.Bool.{cases_Bool, leb-true, leb-false}
use Rattle.std.proofs.lemmas.Option.{same_Some, slice_get-get_or}
use Rattle.std.specs.Prelude.{◌≡◌, ℕ, ◌-◌, ◌<◌, ◌≤◌, ◌^◌, [], ◌∷◌, None, Some, IfSome, nat_le}
use Rattle.cx_storage.specs.Facts.Areas.{byte_before}
use Rattle.cx_storage.specs.Facts.Sound.{covers_cases, IsSoundStorage-head, IsSoundStorage-tail, IsSoundStorage-apart}
use Rattle.cx_storage.specs.Storage.{Storage, end_of, byte_at, next_area, IsSoundStorage}
use Rattle.cx_storage.specs.declared.areas.Area.{Area}

pub no_byte_before_next : (s : Storage) (from a : ℕ) → IsSoundStorage s → byte_at s from ≡ None → from ≤ a → IfSome (next_area s from) (λ area. a < area.start)
    → byte_at s a ≡ None
unfolding byte_at next_area
no_byte_before_next [] from a ok none low below = refl
no_byte_before_next (h ∷ hs) from a ok none low below =
    let whole = IsSoundStorage-head h hs ok in
    elim (covers_cases h.area from) [
      | inl c ↦
          let there = slice_get-get_or h.bytes (from - h.area.start) 0 (omega (arith, whole.full, c.1, c.2)) in
          let bad = rw (c.0, there) at none in
          absurd (cc)
      | inr c ↦ elim (cases_Bool (nat_le from h.area.start)) [
        | inl e ↦
            let under = rw e at below in
            elim (covers_cases h.area a) [
              | inl d ↦ absurd (omega (arith, under, d.1))
              | inr d ↦ rw d.0 (byte_before hs (end_of h.area) a (IsSoundStorage-apart h hs ok) (omega (arith, under)))
            ]
        | inr e ↦
            let over = leb-false from h.area.start e in
            let past : end_of h.area ≤ from = elim c.1 [ inl p ↦ absurd (omega (arith, p, over)) | inr p ↦ p ] in
            elim (covers_cases h.area a) [
              | inl d ↦ absurd (omega (arith, past, low, d.2))
              | inr d ↦ rw d.0 (no_byte_before_next hs from a (IsSoundStorage-tail h hs ok) (rw c.0 at none) low (rw e at below))
            ]
      ]
    ]

-- the next area starts there or above, and below 2^24
pub next_bounds : (s : Storage) (from : ℕ) (area : Area) → IsSoundStorage s → next_area s from ≡ Some area → (from ≤ area.start) × (area.start ≤ 2 ^ 24)
unfolding next_area
next_bounds [] from area ok is = absurd (cc)
next_bounds (h ∷ hs) from area ok is = elim (cases_Bool (nat_le from h.area.start)) [
  | inl e ↦
      let here : h.area ≡ area = same_Some _ _ (rw e at is) in
      let whole = IsSoundStorage-head h hs ok in
      let low = leb-true from h.area.start e in
      rw (← here) (low, omega (arith, whole.below))
  | inr e ↦ next_bounds hs from area (IsSoundStorage-tail h hs ok) (rw e at is)
]
