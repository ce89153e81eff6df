-- The steps of the loops over a store's areas.
use Rattle.std.proofs.Common.{◌≡◌, ℕ, zero, suc, ◌+◌, ◌-◌, ◌%◌, ◌<◌, ◌≤◌, ◌^◌, true, false, List, [], ◌∷◌, length, get_or, take, drop, is_some, slice_get, nat_le, nat_lt, max, refl, sym, ap, ◌∙◌, inl, inr, arith, subst}
use Rattle.std.specs.Prelude.{Option, Some, None, set, ◌&&◌, ◌||◌, ◌==◌}
use Rattle.std.specs.Prelude.{IfSome, MatchOption}
use Rattle.std.specs.Borrow.{Bor}
use Rattle.cx_storage.specs.declared.areas.Owner.{Owner}
use Rattle.std.specs.List.{AllByRecursion, insert}
use Rattle.std.proofs.lemmas.List.{at_drop_more, drop_all, drop_more}
use Rattle.std.proofs.lemmas.Option.{slice_get-get_or}
use Rattle.std.specs.Option.{option_map}
use Rattle.std.proofs.lemmas.Bool.{cases_Bool, le-leb, lt-leb, lt-ltb, le-ltb, false≢true, leb-true, leb-false, cases_lt, and_parts, and_right, or_cases}
use Rattle.cx_storage.specs.Storage.{Held, Storage, end_of, covers, byte_at, span, put_byte, with_byte, area_at, next_area, put_held, with_area, zeros, in_one_area, IsWhole, IsSoundStorage}
use Rattle.cx_storage.specs.Place.{Misses, CanPlace, IsLeastPlace}
use Rattle.cx_storage.specs.Facts.Sound.{All-weaker, IsSoundStorage-tail, IsSoundStorage-head, IsSoundStorage-apart, covers_cases, covers_from}
use Rattle.std.specs.Int.{next_multiple_of}
use Rattle.cx_storage.specs.Parts.Flat.{walk, spot}

-- a search for the area that covers an address
pub byte_skip : (s : Storage) (i a : ℕ) (h : Held) → i < length s → h ≡ get_or s i h → covers h.area a ≡ false → byte_at (drop (i + 1) s) a ≡ byte_at (drop i s) a
unfolding byte_at
byte_skip s i a h l e c =
    let c' = rw e at c in
    sym (at_drop_more (λ t. byte_at t a) s i h l ∙ rw c' refl)

pub byte_found : (s : Storage) (i a : ℕ) (h : Held) → i < length s → h ≡ get_or s i h → covers h.area a ≡ true → byte_at (drop i s) a ≡ slice_get h.bytes (a - h.area.start)
unfolding byte_at
byte_found s i a h l e c =
    let c' = rw e at c in
    at_drop_more (λ t. byte_at t a) s i h l ∙ rw c' (rw (← e) refl)

pub byte_end : (s : Storage) (i a : ℕ) → length s ≤ i → byte_at (drop i s) a ≡ None
unfolding byte_at
byte_end s i a l = rw (drop_all i s l) refl

-- a search for the area that starts at an address
pub area_skip : (s : Storage) (i a : ℕ) (h : Held) → i < length s → h ≡ get_or s i h → (h.area.start == a) ≡ false → area_at (drop (i + 1) s) a ≡ area_at (drop i s) a
unfolding area_at
area_skip s i a h l e c =
    let c' = rw e at c in
    sym (at_drop_more (λ t. area_at t a) s i h l ∙ rw c' refl)

pub area_found : (s : Storage) (i a : ℕ) (h : Held) → i < length s → h ≡ get_or s i h → (h.area.start == a) ≡ true → area_at (drop i s) a ≡ Some h.area
unfolding area_at
area_found s i a h l e c =
    let c' = rw e at c in
    at_drop_more (λ t. area_at t a) s i h l ∙ rw c' (rw (← e) refl)

pub area_end : (s : Storage) (i a : ℕ) → length s ≤ i → area_at (drop i s) a ≡ None
unfolding area_at
area_end s i a l = rw (drop_all i s l) refl

-- a search for the first area that starts at an address or above
pub next_skip : (s : Storage) (i from : ℕ) (h : Held) → i < length s → h ≡ get_or s i h → h.area.start < from → next_area (drop (i + 1) s) from ≡ next_area (drop i s) from
unfolding next_area
next_skip s i from h l e c =
    let e' = sym e in
    sym (at_drop_more (λ t. next_area t from) s i h l ∙ rw (e', lt-leb from h.area.start c) refl)

pub next_found : (s : Storage) (i from : ℕ) (h : Held) → i < length s → h ≡ get_or s i h → from ≤ h.area.start → next_area (drop i s) from ≡ Some h.area
unfolding next_area
next_found s i from h l e c =
    let e' = sym e in
    at_drop_more (λ t. next_area t from) s i h l ∙ rw (e', le-leb from h.area.start c) refl

pub next_end : (s : Storage) (i from : ℕ) → length s ≤ i → next_area (drop i s) from ≡ None
unfolding next_area
next_end s i from l = rw (drop_all i s l) refl

-- the addresses of an area aren't covered by one before it or after it
covers-after : (h : Held) (hs : Storage) (a v : ℕ) → a < end_of h.area → AllByRecursion (λ later. end_of h.area ≤ later.area.start) hs → with_byte hs a v ≡ hs
unfolding with_byte
covers-after h [] a v below apart = refl
covers-after h (g ∷ gs) a v below apart = elim (covers_cases g.area a) [
  | inl c ↦ absurd (omega (arith, apart.0, c.1))
  | inr c ↦ rw (c.0, covers-after h gs a v below apart.1) refl
]

at_index : (P : Held → Type 0) (s : Storage) (i : ℕ) (h : Held) → i < length s → h ≡ get_or s i h → AllByRecursion P s → P h
at_index P [] i h l e all = absurd (omega arith)
at_index P (g ∷ gs) zero h l e all = rw e all.0
at_index P (g ∷ gs) (suc i) h l e all = at_index P gs i h (omega arith) e all.1

-- a write in the area that covers the address is the whole write
pub set_found : (s : Storage) (i a v : ℕ) (h : Held) → IsSoundStorage s → i < length s → h ≡ get_or s i h → covers h.area a ≡ true → set s i (put_byte a v h) ≡ with_byte s a v
unfolding with_byte
set_found [] i a v h ok l e c = absurd (omega arith)
set_found (g ∷ gs) zero a v h ok l e c =
    let c' = rw e at c in
    let low : a < end_of g.area = elim (covers_cases g.area a) [ inl k ↦ k.2 | inr k ↦ absurd (false≢true (sym k.0 ∙ c')) ] in
    rw (← e, covers-after g gs a v low (IsSoundStorage-apart g gs ok)) refl
set_found (g ∷ gs) (suc i) a v h ok l e c =
    let before : end_of g.area ≤ h.area.start = at_index (λ later. end_of g.area ≤ later.area.start) gs i h (omega arith) e (IsSoundStorage-apart g gs ok) in
    elim (covers_cases h.area a) [
      | inl k ↦ elim (covers_cases g.area a) [
        | inl m ↦ absurd (omega (arith, k.1, m.2))
        | inr m ↦ rw (m.0, set_found gs i a v h (IsSoundStorage-tail g gs ok) (omega arith) e c) refl
      ]
      | inr k ↦ absurd (false≢true (sym k.0 ∙ c))
    ]

-- what the area at a place of a sound storage says of storage
pub full_found : (s : Storage) (i : ℕ) (h : Held) → IsSoundStorage s → i < length s → h ≡ get_or s i h → IsWhole h
full_found [] i h ok l e = absurd (omega arith)
full_found (g ∷ gs) zero h ok l e = rw e (IsSoundStorage-head g gs ok)
full_found (g ∷ gs) (suc i) h ok l e = full_found gs i h (IsSoundStorage-tail g gs ok) (omega arith) e

pub byte_at_held : (s : Storage) (i a : ℕ) (h : Held) → IsSoundStorage s → i < length s → h ≡ get_or s i h → covers h.area a ≡ true → byte_at s a ≡ slice_get h.bytes (a - h.area.start)
unfolding byte_at
byte_at_held [] i a h ok l e c = absurd (omega arith)
byte_at_held (g ∷ gs) zero a h ok l e c =
    let c' = rw e at c in
    rw (c', e) refl
byte_at_held (g ∷ gs) (suc i) a h ok l e c =
    let before : end_of g.area ≤ h.area.start = at_index (λ later. end_of g.area ≤ later.area.start) gs i h (omega arith) e (IsSoundStorage-apart g gs ok) in
    elim (covers_cases h.area a) [
      | inl k ↦ elim (covers_cases g.area a) [
        | inl m ↦ absurd (omega (arith, k.1, m.2))
        | inr m ↦ rw m.0 (byte_at_held gs i a h (IsSoundStorage-tail g gs ok) (omega arith) e c)
      ]
      | inr k ↦ absurd (false≢true (sym k.0 ∙ c))
    ]

byte_held : (s : Storage) (i : ℕ) (h : Held) → IsSoundStorage s → i < length s → h ≡ get_or s i h
    → (k : ℕ) → k < length h.bytes → byte_at s (h.area.start + k) ≡ Some (get_or h.bytes k 0)
byte_held s i h ok l e k within =
    let whole = full_found s i h ok l e in
    let inside = covers_from h.area (h.area.start + k) (omega arith) (omega (arith, whole.full)) in
    let at : h.area.start + k - h.area.start ≡ k = omega arith in
    byte_at_held s i (h.area.start + k) h ok l e inside ∙ rw at (slice_get-get_or h.bytes k 0 within)

span_held : (s : Storage) (i : ℕ) (h : Held) → IsSoundStorage s → i < length s → h ≡ get_or s i h
    → (n k : ℕ) → k + n ≤ length h.bytes → span s (h.area.start + k) n ≡ Some (take n (drop k h.bytes))
unfolding span
span_held s i h ok l e zero k fits = refl
span_held s i h ok l e (suc zero) k fits =
    rw (byte_held s i h ok l e k (omega arith), drop_more h.bytes k 0 (omega arith)) refl
span_held s i h ok l e (suc (suc n)) k fits =
    let whole = full_found s i h ok l e in
    let next : (h.area.start + k + 1) % 2 ^ 24 ≡ h.area.start + (k + 1) = omega (arith, whole.full, whole.below) in
    let rest = span_held s i h ok l e (suc n) (k + 1) (omega arith) in
    rw (byte_held s i h ok l e k (omega arith), drop_more h.bytes k 0 (omega arith))
    (ap (λ a. option_map (λ bs. get_or h.bytes k 0 ∷ bs) (span s a (suc n))) next ∙ ap (option_map (λ bs. get_or h.bytes k 0 ∷ bs)) rest)

-- the part of an area's bytes that is a span
pub span_found : (s : Storage) (i a n : ℕ) (h : Held) → IsSoundStorage s → i < length s → h ≡ get_or s i h → h.area.start ≤ a → a - h.area.start + n ≤ length h.bytes
    → span s a n ≡ Some (take (a - h.area.start + n - (a - h.area.start)) (drop (a - h.area.start) h.bytes))
span_found s i a n h ok l e low fits =
    let at : h.area.start + (a - h.area.start) ≡ a = omega arith in
    let many : a - h.area.start + n - (a - h.area.start) ≡ n = omega arith in
    rw many (rw at at (span_held s i h ok l e n (a - h.area.start) fits))

-- a span inside one area is inside the one that has its first address
any_after : (g : Held) (s : Storage) (a n : ℕ) → a < end_of g.area → AllByRecursion (λ later. end_of g.area ≤ later.area.start) s → in_one_area s a n ≡ false
unfolding in_one_area
any_after g [] a n below apart = refl
any_after g (h ∷ hs) a n below apart = rw (lt-leb h.area.start a (omega (arith, apart.0))) (any_after g hs a n below apart.1)

pub together_skip : (s : Storage) (i a n : ℕ) (h : Held) → i < length s → h ≡ get_or s i h → covers h.area a ≡ false → 0 < n → in_one_area (drop (i + 1) s) a n ≡ in_one_area (drop i s) a n
unfolding in_one_area
together_skip s i a n h l e c some =
    let e' = sym e in
    sym (at_drop_more (λ t. in_one_area t a n) s i h l ∙ rw e' (ap (λ b. b || in_one_area (drop (i + 1) s) a n) none))
  where
    none : (nat_le h.area.start a && nat_le (a + n) (end_of h.area)) ≡ false
    none = elim (covers_cases h.area a) [
      | inl k ↦ absurd (false≢true (sym c ∙ k.0))
      | inr k ↦ elim k.1 [
        | inl below ↦ rw (lt-leb h.area.start a below) refl
        | inr above ↦ and_right _ _ (lt-leb (a + n) (end_of h.area) (omega arith))
      ]
    ]

pub together_found : (s : Storage) (i a n : ℕ) (h : Held) → IsSoundStorage s → i < length s → h ≡ get_or s i h → covers h.area a ≡ true → 0 < n → in_one_area s a n ≡ true → a + n ≤ end_of h.area
unfolding in_one_area
together_found [] i a n h ok l e c some one = absurd (omega arith)
together_found (g ∷ gs) zero a n h ok l e c some one = elim (covers_cases h.area a) [
  | inl k ↦ elim (or_cases (nat_le g.area.start a && nat_le (a + n) (end_of g.area)) (in_one_area gs a n) one) [
    | inl here ↦ let fits : a + n ≤ end_of g.area = leb-true _ _ (and_parts (nat_le g.area.start a) _ here).1 in rw e fits
    | inr there ↦
        let low = k.2 in
        absurd (false≢true (sym (any_after g gs a n (rw e at low) (IsSoundStorage-apart g gs ok)) ∙ there))
  ]
  | inr k ↦ absurd (false≢true (sym k.0 ∙ c))
]
together_found (g ∷ gs) (suc i) a n h ok l e c some one =
    let before : end_of g.area ≤ h.area.start = at_index (λ later. end_of g.area ≤ later.area.start) gs i h (omega arith) e (IsSoundStorage-apart g gs ok) in
    elim (covers_cases h.area a) [
      | inl k ↦ elim (or_cases (nat_le g.area.start a && nat_le (a + n) (end_of g.area)) (in_one_area gs a n) one) [
        | inl here ↦ let fits : a + n ≤ end_of g.area = leb-true _ _ (and_parts (nat_le g.area.start a) _ here).1 in absurd (omega (arith, k.1))
        | inr there ↦ together_found gs i a n h (IsSoundStorage-tail g gs ok) (omega arith) e c some there
      ]
      | inr k ↦ absurd (false≢true (sym k.0 ∙ c))
    ]

pub together_end : (s : Storage) (i a n : ℕ) → length s ≤ i → in_one_area (drop i s) a n ≡ false
unfolding in_one_area
together_end s i a n l = rw (drop_all i s l) refl

-- the walk for a place
pub walk_more : (s : Storage) (i len at : ℕ) (h : Held) → i < length s → h ≡ get_or s i h → h.area.start < at + len
    → walk len (max at (next_multiple_of (h.area.start + h.area.len) 16)) (drop (i + 1) s) ≡ walk len at (drop i s)
unfolding walk
walk_more s i len at h l e c =
    let e' = sym e in
    sym (at_drop_more (λ t. walk len at t) s i h l ∙ rw (e', lt-leb (at + len) h.area.start c) refl)

pub walk_stop : (s : Storage) (i len at : ℕ) (h : Held) → i < length s → h ≡ get_or s i h → at + len ≤ h.area.start → walk len at (drop i s) ≡ at
unfolding walk
walk_stop s i len at h l e c =
    let e' = sym e in
    at_drop_more (λ t. walk len at t) s i h l ∙ rw (e', le-leb (at + len) h.area.start c) refl

pub walk_end : (s : Storage) (i len at : ℕ) → length s ≤ i → walk len at (drop i s) ≡ at
unfolding walk
walk_end s i len at l = rw (drop_all i s l) refl

-- how many areas come before
pub spot_more : (s : Storage) (i start : ℕ) (h : Held) → i < length s → h ≡ get_or s i h → h.area.start ≤ start → spot start (drop (i + 1) s) + (i + 1) ≡ spot start (drop i s) + i
unfolding spot
spot_more s i start h l e c =
    let e' = sym e in
    let next : spot start (drop i s) ≡ suc (spot start (drop (i + 1) s)) = at_drop_more (λ t. spot start t) s i h l ∙ rw (e', le-ltb start h.area.start c) refl in
    omega (arith, next)

pub spot_stop : (s : Storage) (i start : ℕ) (h : Held) → i < length s → h ≡ get_or s i h → start < h.area.start → spot start (drop i s) ≡ 0
unfolding spot
spot_stop s i start h l e c =
    let e' = sym e in
    at_drop_more (λ t. spot start t) s i h l ∙ rw (e', lt-ltb start h.area.start c) refl

pub spot_end : (s : Storage) (i start : ℕ) → length s ≤ i → spot start (drop i s) ≡ 0
unfolding spot
spot_end s i start l = rw (drop_all i s l) refl

pub put_held_spot : (h : Held) (s : Storage) → put_held h s ≡ insert s (spot h.area.start s) h
unfolding put_held spot
put_held_spot h [] = refl
put_held_spot h (g ∷ gs) = elim (cases_Bool (nat_lt h.area.start g.area.start)) [
  | inl e ↦ rw e refl
  | inr e ↦ rw e (ap (λ t. g ∷ t) (put_held_spot h gs))
]

-- the next multiple of 16 is one, is at or above the number, and is the least such
next_16_multiple : (x : ℕ) → next_multiple_of x 16 % 16 ≡ 0
next_16_multiple x = omega arith

next_16_above : (x : ℕ) → x ≤ next_multiple_of x 16
next_16_above x = omega arith

next_16_least : (x b : ℕ) → b % 16 ≡ 0 → x ≤ b → next_multiple_of x 16 ≤ b
next_16_least x b multiple above = omega arith

max_multiple : (x y : ℕ) → x % 16 ≡ 0 → y % 16 ≡ 0 → max x y % 16 ≡ 0
max_multiple x y p q = elim (cases_lt x y) [
  | inl lt ↦ let e : max x y ≡ y = omega arith in rw e q
  | inr ge ↦ let e : max x y ≡ x = omega arith in rw e p
]

-- where the walk stops: a multiple of 16, not before its start
walk_multiple : (s : Storage) (len at : ℕ) → at % 16 ≡ 0 → walk len at s % 16 ≡ 0
unfolding walk
walk_multiple [] len at m = m
walk_multiple (h ∷ hs) len at m = elim (cases_Bool (nat_le (at + len) h.area.start)) [
  | inl e ↦ rw e m
  | inr e ↦ rw e (walk_multiple hs len (max at (next_multiple_of (end_of h.area) 16)) (max_multiple at (next_multiple_of (end_of h.area) 16) m (next_16_multiple (end_of h.area))))
]

walk_above : (s : Storage) (len at : ℕ) → at ≤ walk len at s
unfolding walk
walk_above [] len at = omega arith
walk_above (h ∷ hs) len at = elim (cases_Bool (nat_le (at + len) h.area.start)) [
  | inl e ↦ rw e (omega arith)
  | inr e ↦ let rest = walk_above hs len (max at (next_multiple_of (end_of h.area) 16)) in rw e (omega (arith, rest))
]

-- it meets no area
walk_misses : (s : Storage) (len at : ℕ) → IsSoundStorage s → AllByRecursion (Misses len (walk len at s)) s
unfolding walk
walk_misses [] len at ok = tt
walk_misses (h ∷ hs) len at ok = elim (cases_Bool (nat_le (at + len) h.area.start)) [
  | inl e ↦
      let fits = leb-true (at + len) h.area.start e in
      let stops : walk len at (h ∷ hs) ≡ at = rw e refl in
      let misses : AllByRecursion (Misses len at) (h ∷ hs) =
      (inr fits, All-weaker (λ later. end_of h.area ≤ later.area.start) (Misses len at) hs (λ later le. inr (omega arith)) (IsSoundStorage-apart h hs ok)) in
      subst (λ r. AllByRecursion (Misses len r) (h ∷ hs)) (sym stops) misses
  | inr e ↦
      let at' = max at (next_multiple_of (end_of h.area) 16) in
      let above = walk_above hs len at' in
      let next = next_16_above (end_of h.area) in
      let goes : walk len at (h ∷ hs) ≡ walk len at' hs = rw e refl in
      let misses : AllByRecursion (Misses len (walk len at' hs)) (h ∷ hs) = (inl (omega (arith, above, next)), walk_misses hs len at' (IsSoundStorage-tail h hs ok)) in
      subst (λ r. AllByRecursion (Misses len r) (h ∷ hs)) (sym goes) misses
]

-- and no multiple of 16 before it does so
walk_least : (s : Storage) (len at b : ℕ) → b % 16 ≡ 0 → at ≤ b → AllByRecursion (Misses len b) s → walk len at s ≤ b
unfolding walk
walk_least [] len at b m above misses = above
walk_least (h ∷ hs) len at b m above misses = elim (cases_Bool (nat_le (at + len) h.area.start)) [
  | inl e ↦ rw e above
  | inr e ↦
      let meets = leb-false (at + len) h.area.start e in
      elim misses.0 [
        | inl after ↦
            let next = next_16_least (end_of h.area) b m after in
            rw e (walk_least hs len (max at (next_multiple_of (end_of h.area) 16)) b m (omega (arith, next)) misses.1)
        | inr before ↦ absurd (omega arith)
      ]
]

-- what the walk finds is the least place, where it lies in the range
pub place_found : (s : Storage) (first last len at : ℕ) → IsSoundStorage s → at ≡ walk len (next_multiple_of first 16) s → at + len ≤ last + 1 → IsLeastPlace s first last len (Some at)
unfolding IsLeastPlace CanPlace
place_found s first last len at ok e fits =
    let above = walk_above s len (next_multiple_of first 16) in
    let next = next_16_above first in
    let can : CanPlace s first last len at = (rw e (walk_multiple s len (next_multiple_of first 16) (next_16_multiple first)), omega (arith, above, next), fits, rw e (walk_misses s len (next_multiple_of first 16) ok)) in
    (can, λ b h. rw e (walk_least s len (next_multiple_of first 16) b h.0 (next_16_least first b h.0 h.1) h.3))

pub place_none : (s : Storage) (first last len at : ℕ) → at ≡ walk len (next_multiple_of first 16) s → last + 1 < at + len → IsLeastPlace s first last len None
unfolding IsLeastPlace CanPlace
place_none s first last len at e past =
    λ b h. let least = walk_least s len (next_multiple_of first 16) b h.0 (next_16_least first b h.0 h.1) h.3 in omega (arith, least, h.2)

pub present_found : (s : Storage) (i a : ℕ) (h : Held) → IsSoundStorage s → i < length s → h ≡ get_or s i h → covers h.area a ≡ true → is_some (byte_at s a) ≡ true
present_found s i a h ok l e c =
    let whole = full_found s i h ok l e in
    let within : a - h.area.start < length h.bytes = elim (covers_cases h.area a) [
      | inl k ↦ omega (arith, whole.full, k.1, k.2)
      | inr k ↦ absurd (false≢true (sym k.0 ∙ c))
    ] in
    rw (byte_at_held s i a h ok l e c, slice_get-get_or h.bytes (a - h.area.start) 0 within) refl

-- a fact of the value lent, where one is
pub part_gives : (r : Option (Bor (List ℕ))) (P : Type 0) (Q R : Bor (List ℕ) → Type 0) → ((x : Bor (List ℕ)) → Q x → R x) → MatchOption r P Q → IfSome r R
part_gives None P Q R step h = tt
part_gives (Some x) P Q R step h = step x h

pub place_is_some : (s : Storage) (first last len a : ℕ) → IsLeastPlace s first last len (Some a) → IsLeastPlace s first last len None → ⊥
unfolding IsLeastPlace
place_is_some s first last len a p none = none a p.0

pub with_area_none : (s : Storage) (len : ℕ) (owner : Owner) → with_area s None len owner ≡ s
unfolding with_area
with_area_none s len owner = refl

pub with_area_some : (s : Storage) (a len : ℕ) (owner : Owner) → with_area s (Some a) len owner ≡ put_held (zeros a len owner) s
unfolding with_area
with_area_some s a len owner = refl
