-- What follows from soundness, and what keeps it.
use Rattle.std.proofs.Common.{refl, ◌∙◌, inl, inr, arith, length-set, []}
use Rattle.std.proofs.lemmas.Bool.{cases_Bool, and_parts, and_from, and_cases, leb-true, ltb-true, leb-false, ltb-false, le-leb, lt-ltb}
use Rattle.std.proofs.lemmas.List.{length-replicate}
use Rattle.std.specs.Coded.{×_prop, Unit-prop, le_prop, Coded-set, coded_ℕ}
use Rattle.std.specs.List.{AllByRecursion, filter, AllByRecursion-prop}
use Rattle.std.specs.Option.{option_and_then, option_map}
use Rattle.std.specs.Prelude.{◌≡◌, ℕ, zero, suc, ◌-◌, ◌<◌, ◌≤◌, ◌⊎◌, Bool, true, false, List, ◌∷◌, length, replicate, slice_get, Option, Some, None, nat_lt, ◌^◌, slice_set, map, []}
use Rattle.cx_storage.specs.Place.{Misses, CanPlace, IsLeastPlace}
use Rattle.cx_storage.specs.Storage.{Held, Storage, end_of, covers, byte_at, zeros, put_held, with_area, with_areas_kept, IsWhole, IsSoundStorage, span, with_byte, put_byte, AreOrdered}
use Rattle.cx_storage.specs.Address.{address_after}
use Rattle.cx_storage.specs.declared.areas.Area.{Area}
use Rattle.cx_storage.specs.declared.areas.Owner.{Owner}

IsWhole-prop : (h : Held) → IsProp (IsWhole h)
IsWhole-prop h =
    let small = AllByRecursion-prop (λ b. b < 256) (λ _. le_prop) h.bytes in
    let full = Coded-set coded_ℕ (length h.bytes) h.area.len in
    hlevel (small, full, le_prop)

AreOrdered-prop : (s : Storage) → IsProp (AreOrdered s)
AreOrdered-prop [] = Unit-prop
AreOrdered-prop (h ∷ hs) =
    ×_prop (AllByRecursion-prop (λ (later : Held). end_of h.area ≤ later.area.start) (λ _. le_prop) hs) (AreOrdered-prop hs)

-- a store's ghost field may hold it
pub IsSoundStorage-prop : (s : Storage) → IsProp (IsSoundStorage s)
unfolding IsSoundStorage
IsSoundStorage-prop s = ×_prop (AllByRecursion-prop IsWhole IsWhole-prop s) (AreOrdered-prop s)

pub sound_nil : IsSoundStorage []
unfolding IsSoundStorage
sound_nil = (tt, tt)

pub IsSoundStorage-tail : (h : Held) (hs : Storage) → IsSoundStorage (h ∷ hs) → IsSoundStorage hs
unfolding IsSoundStorage
IsSoundStorage-tail h hs ok = (ok.0.1, ok.1.1)

pub IsSoundStorage-head : (h : Held) (hs : Storage) → IsSoundStorage (h ∷ hs) → IsWhole h
unfolding IsSoundStorage
IsSoundStorage-head h hs ok = ok.0.0

pub IsSoundStorage-apart : (h : Held) (hs : Storage) → IsSoundStorage (h ∷ hs) → AllByRecursion (λ later. end_of h.area ≤ later.area.start) hs
unfolding IsSoundStorage
IsSoundStorage-apart h hs ok = ok.1.0

pub IsSoundStorage-cons : (h : Held) (hs : Storage) → IsWhole h → AllByRecursion (λ later. end_of h.area ≤ later.area.start) hs → IsSoundStorage hs → IsSoundStorage (h ∷ hs)
unfolding IsSoundStorage
IsSoundStorage-cons h hs whole apart ok = ((whole, ok.0), (apart, ok.1))

-- what the test whether an area covers an address says
pub covers_cases : (area : Area) (x : ℕ) → ((covers area x ≡ true) × (area.start ≤ x) × (x < end_of area)) ⊎ ((covers area x ≡ false) × ((x < area.start) ⊎ (end_of area ≤ x)))
covers_cases area x = elim (cases_Bool (covers area x)) [
  | inl e ↦ let p = and_parts _ _ e in inl (e, leb-true _ _ p.0, ltb-true _ _ p.1)
  | inr e ↦ inr (e, elim (and_cases _ _ e) [ inl f ↦ inl (leb-false _ _ f) | inr f ↦ inr (ltb-false _ _ f) ])
]

pub covers_from : (area : Area) (x : ℕ) → area.start ≤ x → x < end_of area → covers area x ≡ true
covers_from area x low high = and_from _ _ (le-leb _ _ low) (lt-ltb _ _ high)

-- what holds of each area, through a change of all, a filter and one more
pub All-map : (P Q : Held → Type 0) (f : Held → Held) (s : Storage) → ((h : Held) → P h → Q (f h)) → AllByRecursion P s → AllByRecursion Q (map f s)
All-map P Q f [] step all = tt
All-map P Q f (h ∷ hs) step all = (step h all.0, All-map P Q f hs step all.1)

pub All-weaker : (P Q : Held → Type 0) (s : Storage) → ((h : Held) → P h → Q h) → AllByRecursion P s → AllByRecursion Q s
All-weaker P Q [] step all = tt
All-weaker P Q (h ∷ hs) step all = (step h all.0, All-weaker P Q hs step all.1)

pub All-filter : (P : Held → Type 0) (test : Held → Bool) (s : Storage) → AllByRecursion P s → AllByRecursion P (filter test s)
All-filter P test [] all = tt
All-filter P test (h ∷ hs) all = elim (cases_Bool (test h)) [
  | inl e ↦ rw e (all.0, All-filter P test hs all.1)
  | inr e ↦ rw e (All-filter P test hs all.1)
]

pub All-put_held : (P : Held → Type 0) (h : Held) (s : Storage) → P h → AllByRecursion P s → AllByRecursion P (put_held h s)
unfolding put_held
All-put_held P h [] new all = (new, tt)
All-put_held P h (g ∷ gs) new all = elim (cases_Bool (nat_lt h.area.start g.area.start)) [
  | inl e ↦ rw e (new, all)
  | inr e ↦ rw e (all.0, All-put_held P h gs new all.1)
]

small_set : (bs : List ℕ) (k v : ℕ) → v < 256 → AllByRecursion (λ b. b < 256) bs → AllByRecursion (λ b. b < 256) (slice_set bs k v)
small_set [] k v h all = tt
small_set (b ∷ bs) zero v h all = (h, all.1)
small_set (b ∷ bs) (suc k) v h all = (all.0, small_set bs k v h all.1)

pub put_byte_area : (a v : ℕ) (h : Held) → (put_byte a v h).area ≡ h.area
put_byte_area a v h = elim (cases_Bool (covers h.area a)) [ inl e ↦ rw e refl | inr e ↦ rw e refl ]

put_byte-whole : (a v : ℕ) (h : Held) → v < 256 → IsWhole h → IsWhole (put_byte a v h)
put_byte-whole a v h small whole = elim (cases_Bool (covers h.area a)) [
  | inl e ↦ rw e (record {
    nonempty = whole.nonempty;
    below = whole.below;
    full = length-set h.bytes (a - h.area.start) v ∙ whole.full;
    small = small_set h.bytes (a - h.area.start) v small whole.small;
  })
  | inr e ↦ rw e whole
]

ordered-with_byte : (s : Storage) (a v : ℕ) → AreOrdered s → AreOrdered (map (put_byte a v) s)
ordered-with_byte [] a v ok = tt
ordered-with_byte (h ∷ hs) a v ok =
    let after = All-map (λ later. end_of h.area ≤ later.area.start) (λ later. end_of h.area ≤ later.area.start) (put_byte a v) hs (λ later le. rw (put_byte_area a v later) le) ok.0 in
    (rw (put_byte_area a v h) after, ordered-with_byte hs a v ok.1)

-- a byte written
pub sound_with_byte : (s : Storage) (a v : ℕ) → IsSoundStorage s → v < 256 → IsSoundStorage (with_byte s a v)
unfolding IsSoundStorage with_byte
sound_with_byte s a v ok small = (All-map IsWhole IsWhole (put_byte a v) s (λ h. put_byte-whole a v h small) ok.0, ordered-with_byte s a v ok.1)

-- areas freed
ordered-filter : (test : Held → Bool) (s : Storage) → AreOrdered s → AreOrdered (filter test s)
ordered-filter test [] ok = tt
ordered-filter test (h ∷ hs) ok = elim (cases_Bool (test h)) [
  | inl e ↦ rw e (All-filter (λ later. end_of h.area ≤ later.area.start) test hs ok.0, ordered-filter test hs ok.1)
  | inr e ↦ rw e (ordered-filter test hs ok.1)
]

pub sound_with_areas_kept : (s : Storage) (keeps : Area → Bool) → IsSoundStorage s → IsSoundStorage (with_areas_kept keeps s)
unfolding IsSoundStorage with_areas_kept
sound_with_areas_kept s keeps ok = (All-filter IsWhole (λ h. keeps h.area) s ok.0, ordered-filter (λ h. keeps h.area) s ok.1)

-- an area put in where it meets none
pub sound_put_held : (h : Held) (s : Storage) → IsWhole h → AllByRecursion (Misses h.area.len h.area.start) s → IsSoundStorage s → IsSoundStorage (put_held h s)
unfolding put_held
sound_put_held h [] whole misses ok = IsSoundStorage-cons h [] whole tt ok
sound_put_held h (g ∷ gs) whole misses ok = elim (cases_Bool (nat_lt h.area.start g.area.start)) [
  | inl e ↦
      let first = ltb-true _ _ e in
      let head = IsSoundStorage-head g gs ok in
      let apart : end_of h.area ≤ g.area.start = elim misses.0 [ inl before ↦ absurd (omega (arith, head.nonempty)) | inr beyond ↦ beyond ] in
      let later = All-weaker (λ later. end_of g.area ≤ later.area.start) (λ later. end_of h.area ≤ later.area.start) gs (λ later le. omega (arith, head.nonempty)) (IsSoundStorage-apart g gs ok) in
      rw e (IsSoundStorage-cons h (g ∷ gs) whole (apart, later) ok)
  | inr e ↦
      let beyond = ltb-false _ _ e in
      let apart : end_of g.area ≤ h.area.start = elim misses.0 [ inl before ↦ before | inr after ↦ absurd (omega (arith, whole.nonempty)) ] in
      rw e (IsSoundStorage-cons g (put_held h gs) (IsSoundStorage-head g gs ok)
      (All-put_held (λ later. end_of g.area ≤ later.area.start) h gs apart (IsSoundStorage-apart g gs ok))
      (sound_put_held h gs whole misses.1 (IsSoundStorage-tail g gs ok)))
]

small_zeros : (n : ℕ) → AllByRecursion (λ b. b < 256) (replicate n 0)
small_zeros zero = tt
small_zeros (suc n) = (omega arith, small_zeros n)

-- a fresh area made at a place
pub sound_with_area : (s : Storage) (first last len : ℕ) (start : Option ℕ) (owner : Owner) → IsSoundStorage s → last < 2 ^ 24 → 0 < len → IsLeastPlace s first last len start → IsSoundStorage (with_area s start len owner)
unfolding with_area IsLeastPlace CanPlace
sound_with_area s first last len None owner ok below some placed = ok
sound_with_area s first last len (Some a) owner ok below some placed =
    sound_put_held (zeros a len owner) s
    (record { nonempty = some; below = omega (arith, placed.0.2); full = length-replicate len 0; small = small_zeros len })
    placed.0.3 ok

small_at : (bs : List ℕ) (k v : ℕ) → AllByRecursion (λ b. b < 256) bs → slice_get bs k ≡ Some v → v < 256
small_at [] k v all e = cc
small_at (b ∷ bs) zero v all e = let same : b ≡ v = cc in rw (← same) all.0
small_at (b ∷ bs) (suc k) v all e = small_at bs k v all.1 e

-- a byte is one: below 256, at an address below 2^24
pub byte_small : (s : Storage) (x v : ℕ) → IsSoundStorage s → byte_at s x ≡ Some v → v < 256
unfolding byte_at
byte_small [] x v ok e = cc
byte_small (h ∷ hs) x v ok e = elim (covers_cases h.area x) [
  | inl c ↦ small_at h.bytes (x - h.area.start) v (IsSoundStorage-head h hs ok).small (rw c.0 at e)
  | inr c ↦ byte_small hs x v (IsSoundStorage-tail h hs ok) (rw c.0 at e)
]

pub byte_beyond : (s : Storage) (x : ℕ) → IsSoundStorage s → 2 ^ 24 ≤ x → byte_at s x ≡ None
unfolding byte_at
byte_beyond [] x ok past = refl
byte_beyond (h ∷ hs) x ok past = elim (covers_cases h.area x) [
  | inl c ↦ absurd (omega (arith, (IsSoundStorage-head h hs ok).below, c.2))
  | inr c ↦ rw c.0 (byte_beyond hs x (IsSoundStorage-tail h hs ok) past)
]

pub span_small : (s : Storage) (a n : ℕ) (bytes : List ℕ) → IsSoundStorage s → span s a n ≡ Some bytes → AllByRecursion (λ b. b < 256) bytes
unfolding span
span_small s a zero bytes ok e = let nil : [] ≡ bytes = cc in rw (← nil) tt
span_small s a (suc n) bytes ok e = go (byte_at s a) (span s (address_after a 1) n) (λ b f. byte_small s a b ok f) (λ bs f. span_small s (address_after a 1) n bs ok f) e
  where
    go : (o : Option ℕ) (r : Option (List ℕ)) → ((b : ℕ) → o ≡ Some b → b < 256) → ((bs : List ℕ) → r ≡ Some bs → AllByRecursion (λ b. b < 256) bs)
        → option_and_then (λ b. option_map (λ bs. b ∷ bs) r) o ≡ Some bytes → AllByRecursion (λ b. b < 256) bytes
    go None r first rest e = cc
    go (Some b) None first rest e = cc
    go (Some b) (Some bs) first rest e =
        let shape : b ∷ bs ≡ bytes = cc in
        rw (← shape) (first b refl, rest bs refl)
