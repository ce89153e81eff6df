-- Bytes written one after the other, and what a write leaves elsewhere.
use Rattle.std.proofs.Common.{refl, sym, ◌∙◌, inl, inr, arith, unwrap_or, []}
use Rattle.std.proofs.lemmas.Bool.{cases_Bool, cases_lt, false≢true, le-ltb}
use Rattle.std.proofs.lemmas.Option.{slice_get-get_or, none-some}
use Rattle.std.specs.List.{AllByRecursion}
use Rattle.std.specs.Option.{option_map_or}
use Rattle.std.specs.Prelude.{◌≡◌, ℕ, zero, suc, ◌-◌, ◌<◌, ◌≤◌, Bool, true, false, List, ◌∷◌, length, Option, Some, None, is_some, ◌^◌, []}
use Rattle.cx_storage.specs.Facts.Sound.{covers_cases, IsSoundStorage-head, IsSoundStorage-tail, sound_with_byte}
use Rattle.cx_storage.specs.Facts.Writes.{written_whole, written_none, byte_after_bytes, holder_after_set}
use Rattle.cx_storage.specs.Storage.{Storage, byte_at, holder, IsSoundStorage, span, with_byte, with_bytes, after_write}
use Rattle.cx_storage.specs.Address.{address_after, distance}
use Rattle.cx_storage.specs.declared.areas.Area.{Area}

-- a write where no area covers the address
pub with_byte_absent : (s : Storage) (a v : ℕ) → IsSoundStorage s → byte_at s a ≡ None → with_byte s a v ≡ s
unfolding with_byte byte_at
with_byte_absent [] a v ok e = refl
with_byte_absent (h ∷ hs) a v ok e = elim (covers_cases h.area a) [
  | inl c ↦
      let gone = rw c.0 at e in
      let some = slice_get-get_or h.bytes (a - h.area.start) 0 (omega (arith, (IsSoundStorage-head h hs ok).full, c.1, c.2)) in
      absurd (none-some _ (sym gone ∙ some))
  | inr c ↦ let gone = rw c.0 at e in rw (c.0, with_byte_absent hs a v (IsSoundStorage-tail h hs ok) gone) refl
]

-- a span of no bytes, and of one and the rest
pub span_empty : (s : Storage) (a : ℕ) → span s a 0 ≡ Some []
unfolding span
span_empty s a = refl

pub span_zero : (s : Storage) (a n : ℕ) → n ≡ 0 → is_some (span s a n) ≡ true
span_zero s a n e = rw (e, span_empty s a) refl

-- what a read of an absent span leaves in the buffer
pub unwrap_absent : (o : Option (List ℕ)) (d : List ℕ) → is_some o ≡ false → unwrap_or o d ≡ d
unwrap_absent None d e = refl
unwrap_absent (Some x) d e = cc

-- bytes written
pub sound_with_bytes : (s : Storage) (a : ℕ) (bytes : List ℕ) → IsSoundStorage s → AllByRecursion (λ b. b < 256) bytes → IsSoundStorage (with_bytes s a bytes)
unfolding with_bytes
sound_with_bytes s a [] ok small = ok
sound_with_bytes s a (b ∷ bs) ok small = sound_with_bytes (with_byte s a b) (address_after a 1) bs (sound_with_byte s a b ok small.0) small.1

pub sound_written : (s : Storage) (a : ℕ) (bytes : List ℕ) → IsSoundStorage s → AllByRecursion (λ b. b < 256) bytes → IsSoundStorage (after_write s a bytes)
unfolding after_write
sound_written s a bytes ok small = elim (cases_Bool (is_some (span s a (length bytes)))) [
  | inl e ↦ rw e (sound_with_bytes s a bytes ok small)
  | inr e ↦ rw e ok
]

-- storages that agree at each of its addresses have the same span
pub span_agree : (s t : Storage) (a n : ℕ) → a < 2 ^ 24 → ((k : ℕ) → k < n → byte_at s (address_after a k) ≡ byte_at t (address_after a k)) → span s a n ≡ span t a n
unfolding span
span_agree s t a zero la same = refl
span_agree s t a (suc n) la same =
    let first : address_after a 0 ≡ a = omega arith in
    let here : byte_at s a ≡ byte_at t a = rw first at (same 0 (omega arith)) in
    let rest = span_agree s t (address_after a 1) n (omega arith) (λ k h. let next : address_after (address_after a 1) k ≡ address_after a (suc k) = omega arith in rw next (same (suc k) (omega arith))) in
    rw (here, rest) refl

-- at an address that isn't written, whether or not the write is done
pub byte_after_write_aside : (s : Storage) (a : ℕ) (bytes : List ℕ) (x : ℕ) → a < 2 ^ 24 → x < 2 ^ 24 → length bytes ≤ 2 ^ 24 → length bytes ≤ distance a x
    → byte_at (after_write s a bytes) x ≡ byte_at s x
byte_after_write_aside s a bytes x la lx fits ge = elim (cases_Bool (is_some (span s a (length bytes)))) [
  | inl e ↦ rw (written_whole s a bytes e) (byte_after_bytes s a bytes x la lx fits ∙ rw (le-ltb (distance a x) (length bytes) ge) refl)
  | inr e ↦ rw (written_none s a bytes e) refl
]

pub span_after_write_aside : (s : Storage) (a : ℕ) (bytes : List ℕ) (b n : ℕ) → a < 2 ^ 24 → b < 2 ^ 24 → length bytes ≤ 2 ^ 24
    → ((k : ℕ) → k < n → length bytes ≤ distance a (address_after b k)) → span (after_write s a bytes) b n ≡ span s b n
span_after_write_aside s a bytes b n la lb fits apart =
    span_agree (after_write s a bytes) s b n lb (λ k h. byte_after_write_aside s a bytes (address_after b k) la (omega arith) fits (apart k h))

-- who holds an address after a write, and what stays of the others
pub holder_after_bytes : (s : Storage) (a : ℕ) (bytes : List ℕ) (x : ℕ) → holder (with_bytes s a bytes) x ≡ holder s x
unfolding with_bytes
holder_after_bytes s a [] x = refl
holder_after_bytes s a (b ∷ bs) x = holder_after_bytes (with_byte s a b) (address_after a 1) bs x ∙ holder_after_set s a b x

pub holder_after_write : (s : Storage) (a : ℕ) (bytes : List ℕ) (x : ℕ) → holder (after_write s a bytes) x ≡ holder s x
holder_after_write s a bytes x = elim (cases_Bool (is_some (span s a (length bytes)))) [
  | inl e ↦ rw (written_whole s a bytes e) (holder_after_bytes s a bytes x)
  | inr e ↦ rw (written_none s a bytes e) refl
]

pub others_after_write : (s : Storage) (a : ℕ) (bytes : List ℕ) (mine : Area → Bool) (x : ℕ) → a < 2 ^ 24 → x < 2 ^ 24 → length bytes ≤ 2 ^ 24
    → ((k : ℕ) → k < length bytes → option_map_or mine (holder s (address_after a k)) false ≡ true) → option_map_or mine (holder s x) false ≡ false
    → byte_at (after_write s a bytes) x ≡ byte_at s x
others_after_write s a bytes mine x la lx fits held other = elim (cases_lt (distance a x) (length bytes)) [
  | inl lt ↦
      let back : address_after a (distance a x) ≡ x = omega arith in
      let here : option_map_or mine (holder s x) false ≡ true = rw back at (held (distance a x) lt) in
      absurd (false≢true (sym other ∙ here))
  | inr ge ↦ byte_after_write_aside s a bytes x la lx fits ge
]
