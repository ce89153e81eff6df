-- What a byte and bytes written leave.
use Rattle.std.proofs.Common.{refl, ap, ◌∙◌, inl, inr, arith}
use Rattle.std.proofs.lemmas.List.{drop_more, drop_all}
use Rattle.std.proofs.lemmas.Bool.{cases_Bool, cases_eq, cases_lt, lt-ltb, le-ltb}
use Rattle.std.specs.Option.{option_map}
use Rattle.std.specs.Prelude.{◌≡◌, ℕ, zero, suc, ◌+◌, drop, ◌-◌, ◌<◌, ◌≤◌, true, false, cond, List, ◌∷◌, length, slice_get, Option, Some, None, is_some, nat_lt, ◌≢◌, ◌^◌, slice_set, slice_index, []}
use Rattle.cx_storage.specs.Facts.Sound.{covers_cases, put_byte_area}
use Rattle.cx_storage.specs.Facts.Spans.{span_has, span_from, span_present_agree}
use Rattle.cx_storage.specs.Storage.{Storage, covers, byte_at, areas_of, span, with_byte, with_bytes, after_write, holder}
use Rattle.cx_storage.specs.Address.{address_after, distance}

slice_get-slice_set_same : (bs : List ℕ) (k v : ℕ) → slice_get (slice_set bs k v) k ≡ option_map (λ (_ : ℕ). v) (slice_get bs k)
slice_get-slice_set_same [] k v = refl
slice_get-slice_set_same (b ∷ bs) zero v = refl
slice_get-slice_set_same (b ∷ bs) (suc k) v = slice_get-slice_set_same bs k v

slice_get-slice_set_other : (bs : List ℕ) (j k v : ℕ) → j ≢ k → slice_get (slice_set bs k v) j ≡ slice_get bs j
slice_get-slice_set_other [] j k v e = refl
slice_get-slice_set_other (b ∷ bs) zero zero v e = absurd (e refl)
slice_get-slice_set_other (b ∷ bs) zero (suc k) v e = refl
slice_get-slice_set_other (b ∷ bs) (suc j) zero v e = refl
slice_get-slice_set_other (b ∷ bs) (suc j) (suc k) v e = slice_get-slice_set_other bs j k v (λ p. e (ap suc p))

-- bytes written, the first and then the rest
pub with_bytes_more : (s : Storage) (a k : ℕ) (bytes : List ℕ) (v : ℕ) → k < length bytes → v ≡ slice_index bytes k
    → with_bytes (with_byte s a v) (address_after a 1) (drop (k + 1) bytes) ≡ with_bytes s a (drop k bytes)
unfolding with_bytes
with_bytes_more s a k bytes v h e = rw (e, drop_more bytes k 0 h) refl

pub with_bytes_all : (s : Storage) (a k : ℕ) (bytes : List ℕ) → length bytes ≤ k → with_bytes s a (drop k bytes) ≡ s
unfolding with_bytes
with_bytes_all s a k bytes h = rw (drop_all k bytes h) refl

-- a byte after a write of one byte at its own address: the new byte, where there was one
pub byte_after_set : (s : Storage) (a v : ℕ) → byte_at (with_byte s a v) a ≡ option_map (λ (_ : ℕ). v) (byte_at s a)
unfolding byte_at with_byte
byte_after_set [] a v = refl
byte_after_set (h ∷ hs) a v = elim (cases_Bool (covers h.area a)) [
  | inl e ↦ rw e (rw e (slice_get-slice_set_same h.bytes (a - h.area.start) v))
  | inr e ↦ rw e (rw e (byte_after_set hs a v))
]

-- and at any other address: the byte that was there
pub byte_after_set_elsewhere : (s : Storage) (a v x : ℕ) → x ≢ a → byte_at (with_byte s a v) x ≡ byte_at s x
unfolding byte_at with_byte
byte_after_set_elsewhere [] a v x ne = refl
byte_after_set_elsewhere (h ∷ hs) a v x ne = elim (covers_cases h.area a) [
  | inl ca ↦ elim (covers_cases h.area x) [
    | inl cx ↦ rw ca.0 (rw cx.0 (slice_get-slice_set_other h.bytes (x - h.area.start) (a - h.area.start) v (λ e. ne (omega arith))))
    | inr cx ↦ rw ca.0 (rw cx.0 (byte_after_set_elsewhere hs a v x ne))
  ]
  | inr ca ↦ elim (covers_cases h.area x) [
    | inl cx ↦ rw ca.0 (rw cx.0 refl)
    | inr cx ↦ rw ca.0 (rw cx.0 (byte_after_set_elsewhere hs a v x ne))
  ]
]

pub written_whole : (s : Storage) (a : ℕ) (bytes : List ℕ) → is_some (span s a (length bytes)) ≡ true → after_write s a bytes ≡ with_bytes s a bytes
unfolding after_write
written_whole s a bytes e = rw e refl

pub written_none : (s : Storage) (a : ℕ) (bytes : List ℕ) → is_some (span s a (length bytes)) ≡ false → after_write s a bytes ≡ s
unfolding after_write
written_none s a bytes e = rw e refl

is_some-option_map : (o : Option ℕ) (v : ℕ) → is_some (option_map (λ (_ : ℕ). v) o) ≡ is_some o
is_some-option_map None v = refl
is_some-option_map (Some x) v = refl

there : (o : Option ℕ) (v : ℕ) → is_some o ≡ true → option_map (λ (_ : ℕ). v) o ≡ Some v
there None v e = cc
there (Some x) v e = refl

-- a write changes no presence
pub present_after_set : (s : Storage) (a v x : ℕ) → is_some (byte_at (with_byte s a v) x) ≡ is_some (byte_at s x)
present_after_set s a v x = elim (cases_eq x a) [
  | inl e ↦ rw e (rw (byte_after_set s a v) (is_some-option_map (byte_at s a) v))
  | inr ne ↦ ap is_some (byte_after_set_elsewhere s a v x ne)
]

pub present_after_bytes : (s : Storage) (a : ℕ) (bytes : List ℕ) (x : ℕ) → is_some (byte_at (with_bytes s a bytes) x) ≡ is_some (byte_at s x)
unfolding with_bytes
present_after_bytes s a [] x = refl
present_after_bytes s a (b ∷ bs) x = present_after_bytes (with_byte s a b) (address_after a 1) bs x ∙ present_after_set s a b x

pub present_after_write : (s : Storage) (a : ℕ) (bytes : List ℕ) (x : ℕ) → is_some (byte_at (after_write s a bytes) x) ≡ is_some (byte_at s x)
present_after_write s a bytes x = elim (cases_Bool (is_some (span s a (length bytes)))) [
  | inl e ↦ rw (written_whole s a bytes e) (present_after_bytes s a bytes x)
  | inr e ↦ rw (written_none s a bytes e) refl
]

-- nor any area
pub areas_after_set : (s : Storage) (a v : ℕ) → areas_of (with_byte s a v) ≡ areas_of s
unfolding areas_of with_byte
areas_after_set [] a v = refl
areas_after_set (h ∷ hs) a v = rw (put_byte_area a v h, areas_after_set hs a v) refl

pub areas_after_bytes : (s : Storage) (a : ℕ) (bytes : List ℕ) → areas_of (with_bytes s a bytes) ≡ areas_of s
unfolding with_bytes
areas_after_bytes s a [] = refl
areas_after_bytes s a (b ∷ bs) = areas_after_bytes (with_byte s a b) (address_after a 1) bs ∙ areas_after_set s a b

pub areas_after_write : (s : Storage) (a : ℕ) (bytes : List ℕ) → areas_of (after_write s a bytes) ≡ areas_of s
areas_after_write s a bytes = elim (cases_Bool (is_some (span s a (length bytes)))) [
  | inl e ↦ rw (written_whole s a bytes e) (areas_after_bytes s a bytes)
  | inr e ↦ rw (written_none s a bytes e) refl
]

-- a byte after bytes were written: the one written to its address, where one was
pub byte_after_bytes : (s : Storage) (a : ℕ) (bytes : List ℕ) (x : ℕ) → a < 2 ^ 24 → x < 2 ^ 24 → length bytes ≤ 2 ^ 24
    → byte_at (with_bytes s a bytes) x ≡ cond (nat_lt (distance a x) (length bytes)) (option_map (λ (_ : ℕ). slice_index bytes (distance a x)) (byte_at s x)) (byte_at s x)
unfolding with_bytes
byte_after_bytes s a [] x la lx fits = rw (le-ltb (distance a x) 0 (omega arith)) refl
byte_after_bytes s a (b ∷ bs) x la lx fits = elim (cases_eq x a) [
  | inl e ↦
      let rest = byte_after_bytes (with_byte s a b) (address_after a 1) bs x (omega arith) lx (omega arith) in
      let far : length bs ≤ distance (address_after a 1) x = omega arith in
      let none : distance a x ≡ 0 = omega arith in
      let here : byte_at (with_byte s a b) x ≡ option_map (λ (_ : ℕ). b) (byte_at s x) = rw e (byte_after_set s a b) in
      rest ∙ rw (le-ltb (distance (address_after a 1) x) (length bs) far) (here ∙ rw (none, lt-ltb 0 (suc (length bs)) (omega arith)) refl)
  | inr ne ↦
      let rest = byte_after_bytes (with_byte s a b) (address_after a 1) bs x (omega arith) lx (omega arith) in
      let more : distance a x ≡ suc (distance (address_after a 1) x) = omega arith in
      let other = byte_after_set_elsewhere s a b x ne in
      rest ∙ rw (other, more) (elim (cases_lt (distance (address_after a 1) x) (length bs)) [
        | inl lt ↦ rw (lt-ltb (distance (address_after a 1) x) (length bs) lt, lt-ltb (suc (distance (address_after a 1) x)) (suc (length bs)) (omega arith)) refl
        | inr ge ↦ rw (le-ltb (distance (address_after a 1) x) (length bs) ge, le-ltb (suc (distance (address_after a 1) x)) (suc (length bs)) (omega arith)) refl
      ])
]

-- a byte after a write of bytes that are there
pub byte_after_write : (s : Storage) (a : ℕ) (bytes : List ℕ) (x : ℕ) → a < 2 ^ 24 → x < 2 ^ 24 → length bytes ≤ 2 ^ 24 → is_some (span s a (length bytes)) ≡ true
    → byte_at (after_write s a bytes) x ≡ cond (nat_lt (distance a x) (length bytes)) (Some (slice_index bytes (distance a x))) (byte_at s x)
byte_after_write s a bytes x la lx fits e =
    let at = byte_after_bytes s a bytes x la lx fits in
    rw (written_whole s a bytes e) (at ∙ elim (cases_lt (distance a x) (length bytes)) [
      | inl lt ↦
          let has = span_has s a (length bytes) (distance a x) la e lt in
          let back : address_after a (distance a x) ≡ x = omega arith in
          let one : is_some (byte_at s x) ≡ true = rw back at has in
          rw (lt-ltb (distance a x) (length bytes) lt) (there (byte_at s x) (slice_index bytes (distance a x)) one)
      | inr ge ↦ rw (le-ltb (distance a x) (length bytes) ge) refl
    ])

-- the span that was written, and one beside it
pub span_after_write : (s : Storage) (a : ℕ) (bytes : List ℕ) → a < 2 ^ 24 → length bytes ≤ 2 ^ 24 → is_some (span s a (length bytes)) ≡ true → span (after_write s a bytes) a (length bytes) ≡ Some bytes
span_after_write s a bytes la fits e =
    span_from (after_write s a bytes) a (length bytes) bytes la refl (λ k h.
    let at = byte_after_write s a bytes (address_after a k) la (omega arith) fits e in
    let back : distance a (address_after a k) ≡ k = omega arith in
    at ∙ rw (back, lt-ltb k (length bytes) h) refl)

-- presence of a span after a byte and after bytes were written
pub span_present_after_set : (s : Storage) (a v b n : ℕ) → is_some (span (with_byte s a v) b n) ≡ is_some (span s b n)
span_present_after_set s a v b n = span_present_agree (with_byte s a v) s b n (present_after_set s a v)

pub span_present_after_write : (s : Storage) (a : ℕ) (bytes : List ℕ) (b n : ℕ) → is_some (span (after_write s a bytes) b n) ≡ is_some (span s b n)
span_present_after_write s a bytes b n = span_present_agree (after_write s a bytes) s b n (present_after_write s a bytes)

-- who holds an address after a byte was written
pub holder_after_set : (s : Storage) (a v x : ℕ) → holder (with_byte s a v) x ≡ holder s x
unfolding holder with_byte
holder_after_set [] a v x = refl
holder_after_set (h ∷ hs) a v x = rw (put_byte_area a v h, holder_after_set hs a v x) refl
