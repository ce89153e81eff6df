-- The least place beside an area that isn't made.
use Rattle.std.proofs.Common.{ℕ, ◌+◌, ◌-◌, ◌<◌, ◌≤◌, Option, Some, None, [], ◌∷◌, min, max, nat_lt, inl, inr, arith}
use Rattle.std.specs.List.{AllByRecursion}
use Rattle.std.proofs.lemmas.Bool.{cases_Bool}
use Rattle.cx_storage.specs.declared.areas.Owner.{Owner}
use Rattle.cx_storage.specs.Storage.{Held, Storage, put_held, with_area, zeros}
use Rattle.cx_storage.specs.Place.{CanPlace, IsLeastPlace, Misses}
use Rattle.cx_storage.specs.Facts.Sound.{All-put_held}

all_of_put : (P : Held → Type 0) (h : Held) (s : Storage) → AllByRecursion P (put_held h s) → P h × AllByRecursion P s
unfolding put_held
all_of_put P h [] all = (all.0, tt)
all_of_put P h (g ∷ gs) all = elim (cases_Bool (nat_lt h.area.start g.area.start)) [
  | inl e ↦ let it = rw e at all in (it.0, it.1)
  | inr e ↦ let it = rw e at all in let rest = all_of_put P h gs it.1 in (rest.0, (it.0, rest.1))
]

-- a place with an area is one without it, that misses it
can_without : (s : Storage) (first last len t n : ℕ) (owner : Owner) (b : ℕ) → CanPlace (with_area s (Some t) n owner) first last len b
    → CanPlace s first last len b × Misses len b (zeros t n owner)
unfolding CanPlace with_area
can_without s first last len t n owner b can =
    let parts = all_of_put (Misses len b) (zeros t n owner) s can.3 in ((can.0, can.1, can.2, parts.1), parts.0)

can_with : (s : Storage) (first last len t n : ℕ) (owner : Owner) (b : ℕ) → CanPlace s first last len b → Misses len b (zeros t n owner)
    → CanPlace (with_area s (Some t) n owner) first last len b
unfolding CanPlace with_area
can_with s first last len t n owner b can misses = (can.0, can.1, can.2, All-put_held (Misses len b) (zeros t n owner) s misses can.3)

can_move : (s : Storage) (first last from to len b : ℕ) → CanPlace s first last len b → from ≤ b → b + len ≤ to + 1 → CanPlace s from to len b
unfolding CanPlace
can_move s first last from to len b can low high = (can.0, low, high, can.3)

can_from : (s : Storage) (first last len b : ℕ) → CanPlace s first last len b → first ≤ b
unfolding CanPlace
can_from s first last len b can = can.1

can_to : (s : Storage) (first last len b : ℕ) → CanPlace s first last len b → b + len ≤ last + 1
unfolding CanPlace
can_to s first last len b can = can.2

pub place_from : (s : Storage) (first last len a : ℕ) → IsLeastPlace s first last len (Some a) → first ≤ a
unfolding IsLeastPlace
place_from s first last len a p = can_from s first last len a p.0

pub place_to : (s : Storage) (first last len a : ℕ) → IsLeastPlace s first last len (Some a) → a + len ≤ last + 1
unfolding IsLeastPlace
place_to s first last len a p = can_to s first last len a p.0

-- in front of the area, where there is a place
pub beside_low : (s : Storage) (first last len t n : ℕ) (owner : Owner) (a : ℕ) → 0 < t → IsLeastPlace s first (min last (t - 1)) len (Some a)
    → IsLeastPlace (with_area s (Some t) n owner) first last len (Some a)
unfolding IsLeastPlace
beside_low s first last len t n owner a some p =
    let low = can_from s first (min last (t - 1)) len a p.0 in
    let high = can_to s first (min last (t - 1)) len a p.0 in (
      can_with s first last len t n owner a (can_move s first (min last (t - 1)) first last len a p.0 low (omega arith)) (inr (omega arith)),
      λ b can.
          let both = can_without s first last len t n owner b can in
          let from = can_from s first last len b both.0 in
          let to = can_to s first last len b both.0 in
          elim both.1 [
            | inl past ↦ omega (arith, past)
            | inr before ↦ p.1 b (can_move s first last first (min last (t - 1)) len b both.0 from (omega (arith, before)))
          ],
    )

-- else after it
pub beside_high : (s : Storage) (first last len t n : ℕ) (owner : Owner) (high : Option ℕ) → 0 < t → IsLeastPlace s first (min last (t - 1)) len None
    → IsLeastPlace s (max first (t + n)) last len high → IsLeastPlace (with_area s (Some t) n owner) first last len high
unfolding IsLeastPlace
beside_high s first last len t n owner None some p q = λ b can.
    let both = can_without s first last len t n owner b can in
    let from = can_from s first last len b both.0 in
    let to = can_to s first last len b both.0 in
    elim both.1 [
      | inl past ↦ q b (can_move s first last (max first (t + n)) last len b both.0 (omega (arith, past)) to)
      | inr before ↦ p b (can_move s first last first (min last (t - 1)) len b both.0 from (omega (arith, before)))
    ]
beside_high s first last len t n owner (Some a) some p q =
    let start = can_from s (max first (t + n)) last len a q.0 in
    let end = can_to s (max first (t + n)) last len a q.0 in (
      can_with s first last len t n owner a (can_move s (max first (t + n)) last first last len a q.0 (omega arith) end) (inl (omega arith)),
      λ b can.
          let both = can_without s first last len t n owner b can in
          let from = can_from s first last len b both.0 in
          let to = can_to s first last len b both.0 in
          elim both.1 [
            | inl past ↦ q.1 b (can_move s first last (max first (t + n)) last len b both.0 (omega (arith, past)) to)
            | inr before ↦ absurd (p b (can_move s first last first (min last (t - 1)) len b both.0 from (omega (arith, before))))
          ],
    )
