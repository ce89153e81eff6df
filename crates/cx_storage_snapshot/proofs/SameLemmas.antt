-- Bytes written where they are already change nothing.
use Rattle.std.proofs.Common.{◌≡◌, ℕ, zero, suc, ◌-◌, refl, ap, ◌∙◌, inl, inr, true, List, [], ◌∷◌, length, slice_get, Option, Some, None, is_some}
use Rattle.std.specs.Prelude.{slice_set}
use Rattle.std.specs.Option.{option_and_then, option_map}
use Rattle.cx_storage.specs.Address.{address_after}
use Rattle.cx_storage.specs.Storage.{Storage, end_of, byte_at, span, with_byte, with_bytes, after_write, IsSoundStorage}
use Rattle.cx_storage.specs.Facts.Sound.{IsSoundStorage-tail, IsSoundStorage-apart, covers_cases}
use Rattle.cx_storage.specs.Facts.Writes.{written_whole}
use Rattle.cx_storage_snapshot.proofs.WriteLemmas.{put_after}

same_set : (bs : List ℕ) (k v : ℕ) → slice_get bs k ≡ Some v → slice_set bs k v ≡ bs
same_set [] k v e = refl
same_set (b ∷ bs) zero v e = let same : b ≡ v = cc in rw same refl
same_set (b ∷ bs) (suc k) v e = ap (λ rest. b ∷ rest) (same_set bs k v e)

same_byte : (s : Storage) (a v : ℕ) → IsSoundStorage s → byte_at s a ≡ Some v → with_byte s a v ≡ s
unfolding byte_at with_byte
same_byte [] a v ok e = refl
same_byte (h ∷ hs) a v ok e = elim (covers_cases h.area a) [
  | inl c ↦
      let here = rw c.0 at e in
      let later = put_after hs (end_of h.area) a v (IsSoundStorage-apart h hs ok) c.2 in
      rw (c.0, later, same_set h.bytes (a - h.area.start) v here) refl
  | inr c ↦ rw (c.0, same_byte hs a v (IsSoundStorage-tail h hs ok) (rw c.0 at e)) refl
]

same_bytes : (s : Storage) (a : ℕ) (bytes : List ℕ) → IsSoundStorage s → span s a (length bytes) ≡ Some bytes → with_bytes s a bytes ≡ s
unfolding span with_bytes
same_bytes s a [] ok e = refl
same_bytes s a (b ∷ bs) ok e =
    let parts = parts_of (byte_at s a) (span s (address_after a 1) (length bs)) b bs e in
    rw (same_byte s a b ok parts.0) (same_bytes s (address_after a 1) bs ok parts.1)
  where
    parts_of : (o : Option ℕ) (r : Option (List ℕ)) (c : ℕ) (cs : List ℕ) → option_and_then (λ x. option_map (λ xs. x ∷ xs) r) o ≡ Some (c ∷ cs) → (o ≡ Some c) × (r ≡ Some cs)
    parts_of None r c cs f = cc
    parts_of (Some x) None c cs f = cc
    parts_of (Some x) (Some xs) c cs f = let first : x ≡ c = cc in let all : xs ≡ cs = cc in (ap Some first, ap Some all)

pub same_write : (s : Storage) (a : ℕ) (bytes : List ℕ) → IsSoundStorage s → span s a (length bytes) ≡ Some bytes → after_write s a bytes ≡ s
same_write s a bytes ok e = let there : is_some (span s a (length bytes)) ≡ true = rw e refl in written_whole s a bytes there ∙ same_bytes s a bytes ok e
