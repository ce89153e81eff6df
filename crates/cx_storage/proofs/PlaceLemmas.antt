-- What places depend on, and where they are.
use Rattle.std.proofs.Common.{refl, sym, ◌∙◌, inl, inr, arith, subst}
use Rattle.std.proofs.lemmas.Bool.{cases_lt}
use Rattle.std.proofs.lemmas.Option.{slice_get-get_or, none-some}
use Rattle.std.specs.List.{AllByRecursion}
use Rattle.std.specs.Prelude.{◌≡◌, ℕ, ◌+◌, ◌-◌, ◌<◌, ◌≤◌, ◌⊎◌, true, ◌∷◌, max, Option, Some, None, []}
use Rattle.cx_storage.specs.Facts.Sound.{covers_cases, covers_from, IsSoundStorage-head, IsSoundStorage-tail}
use Rattle.cx_storage.specs.Place.{Misses, CanPlace, IsLeastPlace}
use Rattle.cx_storage.specs.Storage.{Storage, end_of, covers, byte_at, areas_of, IsWhole, IsSoundStorage}
use Rattle.cx_storage.specs.declared.areas.Area.{Area}

misses_of_areas : (s t : Storage) (len b : ℕ) → areas_of s ≡ areas_of t → AllByRecursion (Misses len b) s → AllByRecursion (Misses len b) t
unfolding areas_of
misses_of_areas [] [] len b e all = tt
misses_of_areas [] (g ∷ gs) len b e all = cc
misses_of_areas (h ∷ hs) [] len b e all = cc
misses_of_areas (h ∷ hs) (g ∷ gs) len b e all =
    let first : h.area ≡ g.area = cc in
    let others : areas_of hs ≡ areas_of gs = cc in
    (subst (λ (area : Area). (end_of area ≤ b) ⊎ (b + len ≤ area.start)) first all.0, misses_of_areas hs gs len b others all.1)

pub can_place_of_areas : (s t : Storage) (first last len b : ℕ) → areas_of s ≡ areas_of t → CanPlace s first last len b → CanPlace t first last len b
unfolding CanPlace
can_place_of_areas s t first last len b e can = (can.0, can.1, can.2, misses_of_areas s t len b e can.3)

pub place_of_areas : (s t : Storage) (first last len : ℕ) (r : Option ℕ) → areas_of s ≡ areas_of t → IsLeastPlace s first last len r → IsLeastPlace t first last len r
unfolding IsLeastPlace
place_of_areas s t first last len None e none = λ b can. none b (can_place_of_areas t s first last len b (sym e) can)
place_of_areas s t first last len (Some a) e least =
    (can_place_of_areas s t first last len a e least.0, λ b can. least.1 b (can_place_of_areas t s first last len b (sym e) can))

-- there is no byte where an area may be placed, and where there is none one may
pub misses_absent : (s : Storage) (len b x : ℕ) → AllByRecursion (Misses len b) s → b ≤ x → x < b + len → byte_at s x ≡ None
unfolding byte_at
misses_absent [] len b x all low high = refl
misses_absent (h ∷ hs) len b x all low high = elim (covers_cases h.area x) [
  | inl c ↦ absurd (elim all.0 [ inl p ↦ omega (arith, p, c.2) | inr p ↦ omega (arith, p, c.1) ])
  | inr c ↦ rw c.0 (misses_absent hs len b x all.1 low high)
]

pub absent_misses : (s : Storage) (len b : ℕ) → 0 < len → IsSoundStorage s → ((x : ℕ) → b ≤ x → x < b + len → byte_at s x ≡ None) → AllByRecursion (Misses len b) s
unfolding byte_at
absent_misses [] len b some ok absent = tt
absent_misses (h ∷ hs) len b some ok absent = (here, absent_misses hs len b some (IsSoundStorage-tail h hs ok) rest)
  where
    head : IsWhole h
    head = IsSoundStorage-head h hs ok

    full : (x : ℕ) → covers h.area x ≡ true → h.area.start ≤ x → x < end_of h.area → b ≤ x → x < b + len → ⊥
    full x c low high from below =
        let gone = rw c at (absent x from below) in
        none-some _ (sym gone ∙ slice_get-get_or h.bytes (x - h.area.start) 0 (omega (arith, head.full)))

    here : (end_of h.area ≤ b) ⊎ (b + len ≤ h.area.start)
    here = elim (cases_lt b (end_of h.area)) [
      | inr past ↦ inl past
      | inl before ↦ elim (cases_lt h.area.start (b + len)) [
        | inr after ↦ inr after
        | inl meets ↦
            let low : h.area.start ≤ max b h.area.start = omega arith in
            let high : max b h.area.start < end_of h.area = omega (arith, head.nonempty) in
            absurd (full (max b h.area.start) (covers_from h.area (max b h.area.start) low high) low high (omega arith) (omega arith))
      ]
    ]

    rest : (x : ℕ) → b ≤ x → x < b + len → byte_at hs x ≡ None
    rest x from below = elim (covers_cases h.area x) [
      | inl c ↦ absurd (full x c.0 c.1 c.2 from below)
      | inr c ↦ rw c.0 at (absent x from below)
    ]
