-- What writes, areas put in and areas freed leave of the areas that others own.
use Rattle.std.proofs.Common.{◌≡◌, ℕ, suc, ◌^◌, ◌<◌, ◌≤◌, Bool, true, false, Some, List, [], ◌∷◌, length, is_some, nat_lt, refl, sym, ◌∙◌, ap, arith, inl, inr}
use Rattle.std.specs.List.{AllByRecursion}
use Rattle.std.proofs.lemmas.Bool.{cases_Bool, cases_eq, eq-eqb, ltb-false}
use Rattle.cx_storage.specs.declared.areas.Area.{Area}
use Rattle.cx_storage.specs.declared.areas.Owner.{Owner}
use Rattle.cx_storage.specs.Address.{address_after, distance}
use Rattle.cx_storage.specs.Storage.{Storage, areas_of, byte_at, covers, is_of_other_slot, put_byte, span, starts_elsewhere, with_area, with_areas_kept, with_byte, with_bytes, after_write}
use Rattle.cx_storage.specs.Facts.Sound.{put_byte_area}
use Rattle.cx_storage.specs.Facts.Writes.{areas_after_bytes, byte_after_set_elsewhere, present_after_bytes, written_none, written_whole}
use Rattle.cx_region_state.specs.Facts.Areas.{all_areas_same, freed_put, kept_all}
use Rattle.cx_region_laws.specs.Laws.Bytes.{others_storage}

-- ---- bytes written
kept_set : (keeps : Area → Bool) (s : Storage) (a v : ℕ) → with_areas_kept keeps (with_byte s a v) ≡ with_byte (with_areas_kept keeps s) a v
unfolding with_areas_kept with_byte
kept_set keeps [] a v = refl
kept_set keeps (h ∷ hs) a v =
    let same : keeps (put_byte a v h).area ≡ keeps h.area = ap keeps (put_byte_area a v h) in
    elim (cases_Bool (keeps h.area)) [
      | inl k ↦ let kept = same ∙ k in rw (k, kept) (ap (λ l. put_byte a v h ∷ l) (kept_set keeps hs a v))
      | inr k ↦ let kept = same ∙ k in rw (k, kept) (kept_set keeps hs a v)
    ]

pub kept_bytes : (keeps : Area → Bool) (s : Storage) (a : ℕ) (bytes : List ℕ) → with_areas_kept keeps (with_bytes s a bytes) ≡ with_bytes (with_areas_kept keeps s) a bytes
unfolding with_bytes
kept_bytes keeps s a [] = refl
kept_bytes keeps s a (b ∷ bs) = kept_bytes keeps (with_byte s a b) (address_after a 1) bs ∙ ap (λ t. with_bytes t (address_after a 1) bs) (kept_set keeps s a b)

-- a byte is written to none of the addresses
pub bytes_elsewhere : (s : Storage) (a : ℕ) (bytes : List ℕ) (x : ℕ) → a < 2 ^ 24 → length bytes ≤ distance a x → byte_at (with_bytes s a bytes) x ≡ byte_at s x
unfolding with_bytes
bytes_elsewhere s a [] x low far = refl
bytes_elsewhere s a (b ∷ bs) x low far = elim (cases_eq x a) [
  | inl e ↦ absurd (omega (arith, e, far))
  | inr ne ↦ bytes_elsewhere (with_byte s a b) (address_after a 1) bs x (omega arith) (omega (arith, far)) ∙ byte_after_set_elsewhere s a b x ne
]

-- ---- addresses and starts that no area has
abbrev pub Uncovered : Storage → ℕ → Type 0
Uncovered s x = AllByRecursion (λ h. covers h.area x ≡ false) s

abbrev pub Elsewhere : Storage → ℕ → Type 0
Elsewhere s place = AllByRecursion (λ h. starts_elsewhere place h.area ≡ true) s

pub uncovered_same : (s t : Storage) (x : ℕ) → areas_of t ≡ areas_of s → Uncovered s x → Uncovered t x
uncovered_same s t x e clear = all_areas_same (λ (area : Area). covers area x ≡ false) s t (sym e) clear

pub elsewhere_same : (s t : Storage) (place : ℕ) → areas_of t ≡ areas_of s → Elsewhere s place → Elsewhere t place
elsewhere_same s t place e clear = all_areas_same (λ (area : Area). starts_elsewhere place area ≡ true) s t (sym e) clear

set_uncovered : (s : Storage) (a v : ℕ) → Uncovered s a → with_byte s a v ≡ s
unfolding with_byte
set_uncovered [] a v clear = refl
set_uncovered (h ∷ hs) a v clear = rw (clear.0) (ap (λ l. h ∷ l) (set_uncovered hs a v clear.1))

-- bytes written where no area is
pub bytes_uncovered : (s : Storage) (a : ℕ) (bytes : List ℕ) → a < 2 ^ 24 → ((k : ℕ) → k < length bytes → Uncovered s (address_after a k)) → with_bytes s a bytes ≡ s
unfolding with_bytes
bytes_uncovered s a [] low clear = refl
bytes_uncovered s a (b ∷ bs) low clear =
    let here : address_after a 0 ≡ a = omega (arith, low) in
    let first : Uncovered s a = rw here at (clear 0 (omega arith)) in
    rw (set_uncovered s a b first) (bytes_uncovered s (address_after a 1) bs (omega arith) (λ k less.
    let on : address_after a (suc k) ≡ address_after (address_after a 1) k = omega arith in rw on at (clear (suc k) (omega (arith, less)))))

-- ---- the areas of others
-- bytes written where others have none
pub own_write : (slot : ℕ) (s : Storage) (a : ℕ) (bytes : List ℕ) → a < 2 ^ 24 → ((k : ℕ) → k < length bytes → Uncovered (others_storage slot s) (address_after a k))
    → others_storage slot (after_write s a bytes) ≡ others_storage slot s
own_write slot s a bytes low clear = elim (cases_Bool (is_some (span s a (length bytes)))) [
  | inl e ↦ ap (others_storage slot) (written_whole s a bytes e) ∙ kept_bytes (is_of_other_slot slot) s a bytes ∙ bytes_uncovered (others_storage slot s) a bytes low clear
  | inr e ↦ ap (others_storage slot) (written_none s a bytes e)
]

-- What a step leaves of others' areas: all of them, and the presence of each byte; and the byte, unless it is written.
pub record Left (slot x : ℕ) (writes : Bool) (s t : Storage) : Type 0 where
  pub areas : areas_of (others_storage slot t) ≡ areas_of (others_storage slot s)
  pub present : is_some (byte_at (others_storage slot t) x) ≡ is_some (byte_at (others_storage slot s) x)
  pub byte : writes ≡ false → byte_at (others_storage slot t) x ≡ byte_at (others_storage slot s) x

pub left_same : (slot x : ℕ) (writes : Bool) (s t : Storage) → others_storage slot t ≡ others_storage slot s → Left slot x writes s t
left_same slot x writes s t e =
    record { areas = ap areas_of e; present = ap (λ (l : Storage). is_some (byte_at l x)) e; byte = λ no. ap (λ (l : Storage). byte_at l x) e }

pub left_on : (slot x : ℕ) (writes : Bool) (s t u : Storage) → Left slot x writes s t → Left slot x writes t u → Left slot x writes s u
left_on slot x writes s t u one two =
    record { areas = two.areas ∙ one.areas; present = two.present ∙ one.present; byte = λ no. two.byte no ∙ one.byte no }

-- bytes written anywhere
pub left_write : (slot x : ℕ) (writes : Bool) (s : Storage) (a : ℕ) (bytes : List ℕ) → a < 2 ^ 24 → (writes ≡ false → nat_lt (distance a x) (length bytes) ≡ false)
    → Left slot x writes s (after_write s a bytes)
left_write slot x writes s a bytes low apart = elim (cases_Bool (is_some (span s a (length bytes)))) [
  | inl e ↦
      let is : others_storage slot (after_write s a bytes) ≡ with_bytes (others_storage slot s) a bytes =
      ap (others_storage slot) (written_whole s a bytes e) ∙ kept_bytes (is_of_other_slot slot) s a bytes in
      record {
        areas = ap areas_of is ∙ areas_after_bytes (others_storage slot s) a bytes;
        present = ap (λ (l : Storage). is_some (byte_at l x)) is ∙ present_after_bytes (others_storage slot s) a bytes x;
        byte = λ no. ap (λ (l : Storage). byte_at l x) is ∙ bytes_elsewhere (others_storage slot s) a bytes x low (ltb-false _ _ (apart no));
      }
  | inr e ↦ left_same slot x writes s (after_write s a bytes) (ap (others_storage slot) (written_none s a bytes e))
]

-- an own area put in
pub own_put : (slot : ℕ) (s : Storage) (a len : ℕ) (owner : Owner) → owner.slot ≡ slot → others_storage slot (with_area s (Some a) len owner) ≡ others_storage slot s
own_put slot s a len owner own = freed_put (is_of_other_slot slot) s a len owner (rw (eq-eqb owner.slot slot own) refl)

-- areas freed in either order
freed_both : (one two : Area → Bool) (s : Storage) → with_areas_kept one (with_areas_kept two s) ≡ with_areas_kept two (with_areas_kept one s)
unfolding with_areas_kept
freed_both one two [] = refl
freed_both one two (h ∷ hs) =
    let rest = freed_both one two hs in
    elim (cases_Bool (one h.area)) [
      | inl a ↦ elim (cases_Bool (two h.area)) [
        | inl b ↦ rw (a, b) (rw a (ap (λ l. h ∷ l) rest))
        | inr b ↦ rw (a, b) rest
      ]
      | inr a ↦ elim (cases_Bool (two h.area)) [
        | inl b ↦ rw (a, b) (rw a rest)
        | inr b ↦ rw (a, b) rest
      ]
    ]

-- an area freed at a start that others don't have
pub own_free : (slot : ℕ) (s : Storage) (place : ℕ) → Elsewhere (others_storage slot s) place → others_storage slot (with_areas_kept (starts_elsewhere place) s) ≡ others_storage slot s
own_free slot s place clear =
    freed_both (is_of_other_slot slot) (starts_elsewhere place) s ∙ kept_all (starts_elsewhere place) (others_storage slot s) clear

all_of_others : (keeps : Area → Bool) (s : Storage) → AllByRecursion (λ h. keeps h.area ≡ true) (with_areas_kept keeps s)
unfolding with_areas_kept
all_of_others keeps [] = tt
all_of_others keeps (h ∷ hs) = elim (cases_Bool (keeps h.area)) [
  | inl k ↦ rw k (k, all_of_others keeps hs)
  | inr k ↦ rw k (all_of_others keeps hs)
]

-- all own areas freed
pub own_all_free : (slot : ℕ) (s : Storage) → others_storage slot (others_storage slot s) ≡ others_storage slot s
own_all_free slot s = kept_all (is_of_other_slot slot) (others_storage slot s) (all_of_others (is_of_other_slot slot) s)
