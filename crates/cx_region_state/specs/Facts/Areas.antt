-- What areas put in, written and freed leave of the areas that are there.
use Rattle.std.proofs.Common.{◌≡◌, ℕ, ◌+◌, ◌≤◌, ◌^◌, ◌<◌, Bool, true, false, Some, None, List, [], ◌∷◌, refl, sym, ◌∙◌, ap, subst, arith, inl, inr}
use Rattle.std.specs.Prelude.{nat_lt}
use Rattle.std.specs.List.{AllByRecursion, filter}
use Rattle.std.proofs.lemmas.Bool.{cases_Bool, cases_eq, eq-eqb, ne_eqb}
use Rattle.std.proofs.lemmas.Option.{none-some, same_Some}
use Rattle.cx_storage.specs.declared.areas.Area.{Area}
use Rattle.cx_storage.specs.declared.areas.Owner.{Owner}
use Rattle.cx_storage.specs.Storage.{Storage, Held, area_at, areas_of, with_area, put_held, zeros, starts_elsewhere, after_write, with_areas_kept, IsWhole, IsSoundStorage}
use Rattle.cx_storage.specs.Place.{Misses, CanPlace, IsLeastPlace}
use Rattle.cx_region_state.specs.Areas.{IsTaskPlace}
use Rattle.cx_storage.specs.Storage.{area_from}
use Rattle.cx_storage.specs.Facts.Areas.{area_after_get, area_after_free, area_of_areas}
use Rattle.cx_storage.specs.Facts.Sound.{All-put_held}
use Rattle.cx_storage.specs.Facts.Writes.{areas_after_write}

-- no area starts where one may be placed
pub not_there : (s : Storage) (len b : ℕ) → 0 < len → AllByRecursion IsWhole s → AllByRecursion (Misses len b) s → area_at s b ≡ None
unfolding area_at
not_there [] len b some whole misses = refl
not_there (h ∷ hs) len b some whole misses = elim (cases_eq h.area.start b) [
  | inl e ↦ absurd (elim misses.0 [ inl p ↦ omega (arith, p, e, whole.0.nonempty) | inr p ↦ omega (arith, p, e) ])
  | inr ne ↦ rw (ne_eqb h.area.start b ne) (not_there hs len b some whole.1 misses.1)
]

-- an area that is there stays where a new one is put in
pub area_kept_get : (s : Storage) (first last len a : ℕ) (owner : Owner) (x : ℕ) (area : Area) → IsSoundStorage s → 0 < len → CanPlace s first last len a
    → area_at s x ≡ Some area → area_at (with_area s (Some a) len owner) x ≡ Some area
unfolding CanPlace IsSoundStorage
area_kept_get s first last len a owner x area ok some can stands =
    let absent = not_there s len a some ok.0 can.3 in
    area_after_get s first last len a owner x ok some can ∙ elim (cases_eq a x) [
      | inl e ↦ absurd (none-some area (sym (subst (λ y. area_at s y ≡ None) e absent) ∙ stands))
      | inr ne ↦ rw (ne_eqb a x ne) stands
    ]

-- and the new one is there
pub area_put : (s : Storage) (first last len a : ℕ) (owner : Owner) → IsSoundStorage s → 0 < len → CanPlace s first last len a
    → area_at (with_area s (Some a) len owner) a ≡ Some (area_from a len owner)
area_put s first last len a owner ok some can = area_after_get s first last len a owner a ok some can ∙ rw (eq-eqb a a refl) refl

pub area_written : (s : Storage) (a : ℕ) (bytes : List ℕ) (x : ℕ) → area_at (after_write s a bytes) x ≡ area_at s x
area_written s a bytes x = area_of_areas (after_write s a bytes) s x (areas_after_write s a bytes)

pub area_kept_free : (s : Storage) (keeps : Area → Bool) (x : ℕ) (area : Area) → IsSoundStorage s → area_at s x ≡ Some area → keeps area ≡ true → area_at (with_areas_kept keeps s) x ≡ Some area
area_kept_free s keeps x area ok stands keep = area_after_free s keeps x ok ∙ rw (stands, keep) refl

-- ---- what holds of each area
pub all_areas_same : (P : Area → Type 0) (s t : Storage) → areas_of s ≡ areas_of t → AllByRecursion (λ h. P h.area) s → AllByRecursion (λ h. P h.area) t
unfolding areas_of
all_areas_same P [] [] e all = tt
all_areas_same P [] (g ∷ gs) e all = cc
all_areas_same P (h ∷ hs) [] e all = cc
all_areas_same P (h ∷ hs) (g ∷ gs) e all =
    let first : h.area ≡ g.area = cc in
    let others : areas_of hs ≡ areas_of gs = cc in
    (subst P first all.0, all_areas_same P hs gs others all.1)

pub all_areas_written : (P : Area → Type 0) (s : Storage) (a : ℕ) (bytes : List ℕ) → AllByRecursion (λ h. P h.area) s → AllByRecursion (λ h. P h.area) (after_write s a bytes)
all_areas_written P s a bytes all = all_areas_same P s (after_write s a bytes) (sym (areas_after_write s a bytes)) all

pub all_areas_put : (P : Area → Type 0) (s : Storage) (a len : ℕ) (owner : Owner) → P (area_from a len owner) → AllByRecursion (λ h. P h.area) s → AllByRecursion (λ h. P h.area) (with_area s (Some a) len owner)
unfolding with_area
all_areas_put P s a len owner new all = All-put_held (λ h. P h.area) (zeros a len owner) s new all

-- each area kept passes the test
pub kept_pass : (P : Area → Type 0) (Q : Area → Type 0) (keeps : Area → Bool) (s : Storage) → ((area : Area) → P area → keeps area ≡ true → Q area) → AllByRecursion (λ h. P h.area) s → AllByRecursion (λ h. Q h.area) (with_areas_kept keeps s)
unfolding with_areas_kept
kept_pass P Q keeps [] step all = tt
kept_pass P Q keeps (h ∷ hs) step all = elim (cases_Bool (keeps h.area)) [
  | inl k ↦ rw k (step h.area all.0 k, kept_pass P Q keeps hs step all.1)
  | inr k ↦ rw k (kept_pass P Q keeps hs step all.1)
]

-- ---- areas given back
-- where the test is true at each area, nothing is freed
pub kept_all : (keeps : Area → Bool) (s : Storage) → AllByRecursion (λ h. keeps h.area ≡ true) s → with_areas_kept keeps s ≡ s
unfolding with_areas_kept
kept_all keeps [] all = refl
kept_all keeps (h ∷ hs) all = rw (all.0) (ap (λ l. h ∷ l) (kept_all keeps hs all.1))

-- an area put in and freed leaves what there would be without it
pub freed_put : (keeps : Area → Bool) (s : Storage) (a len : ℕ) (owner : Owner) → keeps (area_from a len owner) ≡ false → with_areas_kept keeps (with_area s (Some a) len owner) ≡ with_areas_kept keeps s
unfolding with_area with_areas_kept put_held
freed_put keeps s a len owner drops = go s
  where
    new : Held
    new = zeros a len owner

    go : (t : Storage) → filter (λ h. keeps h.area) (put_held new t) ≡ filter (λ h. keeps h.area) t
    go [] = rw drops refl
    go (g ∷ gs) = elim (cases_Bool (nat_lt a g.area.start)) [
      | inl e ↦ rw (e, drops) refl
      | inr e ↦ rw e (elim (cases_Bool (keeps g.area)) [
        | inl k ↦ rw k (ap (λ l. g ∷ l) (go gs))
        | inr k ↦ rw k (go gs)
      ])
    ]

-- an area that is found and kept is found where others are freed
pub area_kept_any : (s : Storage) (keeps : Area → Bool) (x : ℕ) (area : Area) → area_at s x ≡ Some area → keeps area ≡ true → area_at (with_areas_kept keeps s) x ≡ Some area
unfolding area_at with_areas_kept
area_kept_any [] keeps x area e keep = absurd (none-some area e)
area_kept_any (h ∷ hs) keeps x area e keep = elim (cases_eq h.area.start x) [
  | inl at ↦
      let here = eq-eqb h.area.start x at in
      let is : h.area ≡ area = same_Some h.area area (rw here at e) in
      let kept : keeps h.area ≡ true = ap keeps is ∙ keep in
      rw (kept, here, is) refl
  | inr apart ↦
      let off = ne_eqb h.area.start x apart in
      let rest = area_kept_any hs keeps x area (rw off at e) keep in
      elim (cases_Bool (keeps h.area)) [
        | inl k ↦ rw (k, off) rest
        | inr k ↦ rw k rest
      ]
]

-- ---- places in task storage
-- a task's area begins below 2^24
pub place_below : (s : Storage) (len place : ℕ) → 0 < len → IsTaskPlace s len (Some place) → place < 2 ^ 24
unfolding IsLeastPlace CanPlace
place_below s len place some least = let ends : place + len ≤ 0xFFFFFF + 1 = least.0.2 in omega (arith, some, ends)

-- no area starts there
pub none_there : (s : Storage) (len place : ℕ) → IsSoundStorage s → 0 < len → IsTaskPlace s len (Some place) → area_at s place ≡ None
unfolding IsLeastPlace CanPlace IsSoundStorage
none_there s len place ok some least = not_there s len place some ok.0 least.0.3

all_elsewhere : (s : Storage) (place : ℕ) → area_at s place ≡ None → AllByRecursion (λ h. starts_elsewhere place h.area ≡ true) s
unfolding area_at
all_elsewhere [] place none = tt
all_elsewhere (h ∷ hs) place none = elim (cases_eq h.area.start place) [
  | inl e ↦ absurd (none-some h.area (sym none ∙ rw (eq-eqb h.area.start place e) refl))
  | inr ne ↦ (rw (ne_eqb h.area.start place ne) refl, all_elsewhere hs place (rw (ne_eqb h.area.start place ne) at none))
]

-- an area that was put in its place and is freed leaves storage as it was
pub given_back : (s : Storage) (len place : ℕ) (owner : Owner) → IsSoundStorage s → 0 < len → IsTaskPlace s len (Some place)
    → with_areas_kept (starts_elsewhere place) (with_area s (Some place) len owner) ≡ s
given_back s len place owner ok some least =
    freed_put (starts_elsewhere place) s place len owner (rw (eq-eqb place place refl) refl)
    ∙ kept_all (starts_elsewhere place) s (all_elsewhere s place (none_there s len place ok some least))
