-- The least place in task storage once a COMMAREA's copy is made.
use Rattle.std.proofs.Common.{◌≡◌, ℕ, ◌+◌, ◌<◌, ◌≤◌, ◌^◌, ◌⊎◌, inl, inr, [], ◌∷◌, Option, Some, None, sym, arith, refl}
use Rattle.std.specs.Prelude.{nat_lt}
use Rattle.std.specs.List.{AllByRecursion}
use Rattle.std.proofs.lemmas.Bool.{cases_Bool}
use Rattle.cx_storage.specs.Storage.{Held, Storage, areas_of, put_held, with_area, zeros}
use Rattle.cx_storage.specs.Place.{CanPlace, IsLeastPlace, Misses}
use Rattle.cx_storage.specs.Facts.Sound.{All-put_held}
use Rattle.cx_region_state.specs.Areas.{IsTaskPlace, first_of_tasks, last_of_tasks, system_owner, with_copy_area}
use Rattle.cx_region_state.specs.declared.verdict.Copying.{Copying}

-- a place found is in task storage
pub place_within : (s : Storage) (len place : ℕ) → IsTaskPlace s len (Some place) → (first_of_tasks ≤ place) × (place + len ≤ 2 ^ 24)
unfolding IsLeastPlace CanPlace
place_within s len place least = (least.0.1, let last = least.0.2 in omega (arith, last))

-- ---- areas alone decide what meets

same_misses : (len b : ℕ) (s t : Storage) → areas_of s ≡ areas_of t → AllByRecursion (Misses len b) s → AllByRecursion (Misses len b) t
unfolding areas_of
same_misses len b [] [] e all = all
same_misses len b [] (h ∷ t) e all = cc
same_misses len b (g ∷ s) [] e all = cc
same_misses len b (g ∷ s) (h ∷ t) e all =
    let first : g.area ≡ h.area = cc in
    let rest : areas_of s ≡ areas_of t = cc in
    (rw (← first) all.0, same_misses len b s t rest all.1)

-- of a storage with one more area
put_all : (P : Held → Type 0) (h : Held) (s : Storage) → AllByRecursion P (put_held h s) → P h × AllByRecursion P s
unfolding put_held
put_all P h [] all = (all.0, tt)
put_all P h (g ∷ gs) all = elim (cases_Bool (nat_lt h.area.start g.area.start)) [
  | inl y ↦ let here = rw y at all in (here.0, (here.1.0, here.1.1))
  | inr n ↦ let here = rw n at all in let later = put_all P h gs here.1 in (later.0, (here.0, later.1))
]

-- ---- the copy

-- `len` bytes from b on don't meet the copy
abbrev pub MissesCopy : ℕ → ℕ → Copying → Type 0
MissesCopy len b copying = (copying.to + copying.from.len ≤ b) ⊎ (b + len ≤ copying.to)

copy_areas : (s : Storage) (slot : ℕ) (copying : Copying)
    → areas_of (with_copy_area s slot (Some copying)) ≡ areas_of (put_held (zeros copying.to copying.from.len (system_owner slot)) s)
unfolding with_copy_area with_area
copy_areas s slot copying = refl

to_copy : (s : Storage) (slot : ℕ) (copying : Copying) (first last len b : ℕ) → CanPlace s first last len b → MissesCopy len b copying
    → CanPlace (with_copy_area s slot (Some copying)) first last len b
unfolding CanPlace
to_copy s slot copying first last len b can misses = (
  can.0,
  can.1,
  can.2,
  same_misses len b _ _ (sym (copy_areas s slot copying))
      (All-put_held (Misses len b) (zeros copying.to copying.from.len (system_owner slot)) s misses can.3),
)

from_copy : (s : Storage) (slot : ℕ) (copying : Copying) (first last len b : ℕ) → CanPlace (with_copy_area s slot (Some copying)) first last len b
    → CanPlace s first last len b × MissesCopy len b copying
unfolding CanPlace
from_copy s slot copying first last len b can =
    let both = put_all (Misses len b) (zeros copying.to copying.from.len (system_owner slot)) s (same_misses len b _ _ (copy_areas s slot copying) can.3) in
    ((can.0, can.1, can.2, both.1), both.0)

-- no place without the copy is none with it
pub none_beside : (s : Storage) (slot : ℕ) (copying : Copying) (len : ℕ) → IsTaskPlace s len None → IsTaskPlace (with_copy_area s slot (Some copying)) len None
unfolding IsLeastPlace
none_beside s slot copying len none = λ b can. none b (from_copy s slot copying _ _ len b can).0

aside : (s : Storage) (slot : ℕ) (copying : Copying) (len q : ℕ) → IsTaskPlace s len (Some q) → MissesCopy len q copying
    → IsTaskPlace (with_copy_area s slot (Some copying)) len (Some q)
unfolding IsLeastPlace
aside s slot copying len q least misses =
    (to_copy s slot copying _ _ len q least.0 misses, λ b can. least.1 b (from_copy s slot copying _ _ len b can).0)

-- the least place without the copy, where it doesn't meet the copy
pub below_copy : (s : Storage) (slot : ℕ) (copying : Copying) (len q : ℕ) → IsTaskPlace s len (Some q) → q + len ≤ copying.to
    → IsTaskPlace (with_copy_area s slot (Some copying)) len (Some q)
below_copy s slot copying len q least below = aside s slot copying len q least (inr below)

pub above_copy : (s : Storage) (slot : ℕ) (copying : Copying) (len q : ℕ) → IsTaskPlace s len (Some q) → copying.to + copying.from.len ≤ q
    → IsTaskPlace (with_copy_area s slot (Some copying)) len (Some q)
above_copy s slot copying len q least above = aside s slot copying len q least (inl above)

-- every place with the copy there is after it, where the least one without it meets it
later : (s : Storage) (slot : ℕ) (copying : Copying) (len q b : ℕ) → IsTaskPlace s len (Some q) → copying.to < q + len
    → CanPlace (with_copy_area s slot (Some copying)) first_of_tasks last_of_tasks len b
    → CanPlace s (copying.to + copying.from.len) last_of_tasks len b
unfolding IsLeastPlace CanPlace
later s slot copying len q b least meets can =
    let both = from_copy s slot copying first_of_tasks last_of_tasks len b can in
    let first = least.1 b both.0 in
    let after = go first both.1 in
    (both.0.0, after, both.0.2, both.0.3)
  where
    go : q ≤ b → MissesCopy len b copying → copying.to + copying.from.len ≤ b
    go first (inl after) = after
    go first (inr before) = absurd (omega (arith, first, before, meets))

earlier : (s : Storage) (slot : ℕ) (copying : Copying) (len b : ℕ) → first_of_tasks ≤ copying.to
    → CanPlace s (copying.to + copying.from.len) last_of_tasks len b → CanPlace (with_copy_area s slot (Some copying)) first_of_tasks last_of_tasks len b
unfolding CanPlace
earlier s slot copying len b low can =
    let after = can.1 in
    to_copy s slot copying first_of_tasks last_of_tasks len b (can.0, omega (arith, low, after), can.2, can.3) (inl after)

-- the least place without the copy meets it: then it is the least one after the copy, if there is one
pub after_copy : (s : Storage) (slot : ℕ) (copying : Copying) (len q : ℕ) (r : Option ℕ) → IsTaskPlace s len (Some q) → first_of_tasks ≤ copying.to
    → copying.to < q + len → IsLeastPlace s (copying.to + copying.from.len) last_of_tasks len r → IsTaskPlace (with_copy_area s slot (Some copying)) len r
unfolding IsLeastPlace
after_copy s slot copying len q None least low meets none = λ b can. none b (later s slot copying len q b least meets can)
after_copy s slot copying len q (Some r) least low meets found =
    (earlier s slot copying len r low found.0, λ b can. found.1 b (later s slot copying len q b least meets can))
