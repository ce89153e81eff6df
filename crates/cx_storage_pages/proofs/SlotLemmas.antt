-- What the slots keep, after one is emptied and after storage changed.
use Rattle.std.proofs.Common.{◌≡◌, ◌≢◌, ℕ, ◌+◌, ◌/◌, ◌%◌, ◌<◌, ◌≤◌, ◌^◌, ◌∙◌, arith, inl, inr, List, [], length, replicate, slice_set, get_or}
use Rattle.std.specs.Prelude.{slice_index}
use Rattle.std.proofs.lemmas.Bool.{cases_eq}
use Rattle.std.proofs.lemmas.List.{get_or-replicate, get_or-set_same, get_or-set_other}
use Rattle.cx_storage.specs.Address.{address_after}
use Rattle.cx_storage.specs.Storage.{Storage, with_byte, after_write}
use Rattle.cx_storage.specs.Laws.Writes.{SpanAside}
use Rattle.cx_storage.specs.Facts.Spans.{span_at, span_from, span_length}
use Rattle.cx_storage.specs.Facts.Writes.{byte_after_set_elsewhere}
use Rattle.cx_storage_pages.specs.Parts.Slots.{IsPlaced, AreWithin, AreStored, IsAside, IsOutside, AreLeft}

-- a table of slots without an address has none
pub none_kept : (i : ℕ) → i < 1024 → slice_index (replicate 1024 4294967295) i < 2 ^ 24 → ⊥
none_kept i h low = let v : slice_index (replicate 1024 4294967295) i ≡ 4294967295 = get_or-replicate 1024 i 4294967295 0 h in absurd (omega (arith, v, low))

-- one slot more is emptied
pub one_emptied : (old slots : List ℕ) (from half : ℕ) → IsPlaced old → length slots ≡ 1024 → AreLeft (IsOutside from half) old slots
    → AreLeft (IsOutside from (half + 1)) old (slice_set slots (half % 1024) 4294967295)
one_emptied old slots from half placed len left i h low = elim (cases_eq i (half % 1024)) [
  | inl e ↦
      let v : slice_index (slice_set slots (half % 1024) 4294967295) i ≡ 4294967295 = rw e (get_or-set_same slots (half % 1024) 4294967295 0 (omega (arith, len))) in
      absurd (omega (arith, v, low))
  | inr ne ↦
      let same : slice_index (slice_set slots (half % 1024) 4294967295) i ≡ slice_index slots i = get_or-set_other slots (half % 1024) i 4294967295 0 ne in
      let was = left i h (rw same at low) in
      let at : slice_index old i / 2 % 1024 ≡ i = placed i h (rw (same, was.0) at low) in (
        same ∙ was.0,
        elim was.1 [
          | inl p ↦ inl (rw same p)
          | inr p ↦ inr (omega (arith, p, at, ne, same, was.0))
        ],
      )
]

-- what is left is in its slot and within the same bounds
pub placed_left : (P : ℕ → Type 0) (old new : List ℕ) → IsPlaced old → AreLeft P old new → IsPlaced new
placed_left P old new placed left i h low = let was = left i h low in rw was.0 (placed i h (rw was.0 at low))

pub within_left : (P : ℕ → Type 0) (old new : List ℕ) (first end : ℕ) → AreWithin first end old → AreLeft P old new → AreWithin first end new
within_left P old new first end within left i h low = let was = left i h low in rw was.0 (within i h (rw was.0 at low))

-- what a byte and bytes written elsewhere leave
pub stored_after_set : (s : Storage) (old new : List ℕ) (bytes : List (List ℕ)) (first end a v : ℕ)
    → AreStored s old bytes → AreWithin first end old → AreLeft (IsAside a 1) old new → a < 2 ^ 24 → AreStored (with_byte s a v) new bytes
stored_after_set s old new bytes first end a v stored within left la i h low =
    let was = left i h low in
    let there = stored i h (rw was.0 at low) in
    let at = within i h (rw was.0 at low) in
    let aside : IsAside a 1 (slice_index old i) = rw was.0 at was.1 in
    let t = slice_index old i in
    rw was.0 (span_from (with_byte s a v) t 8 (get_or bytes i []) (omega (arith, at.2)) (span_length s t 8 (get_or bytes i []) there) (λ k few.
    let apart : address_after t k ≢ a = λ e. elim aside [ inl p ↦ absurd (omega (arith, p, e, at.2, few)) | inr p ↦ absurd (omega (arith, p.0, e, at.2, few)) ] in
    byte_after_set_elsewhere s a v (address_after t k) apart ∙ span_at s t 8 (get_or bytes i []) k (omega (arith, at.2)) there few))

pub stored_after_write : (s : Storage) (old new : List ℕ) (bytes : List (List ℕ)) (first end a : ℕ) (source : List ℕ) → SpanAside
    → AreStored s old bytes → AreWithin first end old → AreLeft (IsAside a (length source)) old new → a < 2 ^ 24 → length source ≤ 65536
    → AreStored (after_write s a source) new bytes
stored_after_write s old new bytes first end a source law stored within left la size i h low =
    let was = left i h low in
    let there = stored i h (rw was.0 at low) in
    let at = within i h (rw was.0 at low) in
    let aside : IsAside a (length source) (slice_index old i) = rw was.0 at was.1 in
    let t = slice_index old i in
    rw was.0 (law s a source t 8 la (omega (arith, at.2)) (omega (arith, size)) (λ k few.
    elim aside [ inl p ↦ omega (arith, p, at.2, few, la) | inr p ↦ omega (arith, p.0, p.1, at.1, at.2, few, la) ]) ∙ there)
