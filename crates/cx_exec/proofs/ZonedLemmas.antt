-- PACK and UNPK of a source that lies apart from the result, from an aligned copy of it.
use Rattle.std.proofs.Common.{◌≡◌, ◌⊎◌, ℕ, zero, suc, ◌+◌, ◌-◌, ◌*◌, ◌/◌, ◌%◌, ◌^◌, ◌<◌, ◌≤◌, nat_lt, false, List, length, take, drop, reverse, slice_index, replicate, Some, refl, sym, ◌∙◌, ap, inl, inr, arith}
use Rattle.std.proofs.lemmas.Bool.{cases_lt, cases_eq, lt-ltb, le-ltb, ne_eqb}
use Rattle.std.proofs.lemmas.Grind.{same_number_lists}
use Rattle.std.proofs.lemmas.List.{get_or-take, get_or-drop, get_or-reverse, length-take, length-take-le, length-drop, length-reverse}
use Rattle.cx_storage.specs.Storage.{Storage, span}
use Rattle.cx_storage.specs.Address.{address_after, distance}
use Rattle.cx_storage.specs.Facts.Spans.{span_at}
use Rattle.cx_exec.specs.Sequence.{byte_seen, stored_by}
use Rattle.cx_exec.specs.Zoned.{address_before, source, swap_halves, packed_byte, fetched_at, unpacked_half, unpacked_byte}
use Rattle.cx_exec.proofs.SequenceLemmas.{stored_length, each_is_stored}

-- the end of a buffer that is reversed is its front reversed
pub reversed_end : (new : List ℕ) (n : ℕ) → length new ≡ 16 → n ≤ 16 → drop (16 - n) (reverse new) ≡ reverse (take n new)
reversed_end new n long few =
    let back : length (drop (16 - n) (reverse new)) ≡ n = omega (arith, length-drop (16 - n) (reverse new), length-reverse new, long, few) in
    let prefix : length (take n new) ≡ n = length-take-le n new (omega (arith, long, few)) in
    same_number_lists (drop (16 - n) (reverse new)) (reverse (take n new)) (back ∙ sym (length-reverse (take n new) ∙ prefix)) (λ k h.
    let within : k < n = omega (arith, h, back) in
    let place : length new - 1 - (16 - n + k) ≡ n - 1 - k = omega (arith, long, few, within) in
    let other : length (take n new) - 1 - k ≡ n - 1 - k = omega (arith, prefix) in
    get_or-drop (16 - n) (reverse new) k 0
    ∙ get_or-reverse new (16 - n + k) 0 (omega (arith, long, few, within))
    ∙ ap (slice_index new) place
    ∙ sym (get_or-take n new (n - 1 - k) 0 (omega (arith, within)))
    ∙ ap (slice_index (take n new)) (sym other)
    ∙ sym (get_or-reverse (take n new) k 0 (omega (arith, prefix, within))))

-- the end of a buffer whose bytes, from the right, are those of a rule
pub ends_with : (rule : List ℕ → ℕ → ℕ) (n : ℕ) (new : List ℕ) → length new ≡ 16 → n ≤ 16
    → ((k : ℕ) (stored : List ℕ) → k < n → length stored ≡ k → slice_index new (15 - k) ≡ rule stored k)
    → drop (16 - n) new ≡ reverse (stored_by rule n)
ends_with rule n new long few each =
    let size : length (stored_by rule n) ≡ n = stored_length rule n in
    let back : length (drop (16 - n) new) ≡ n = omega (arith, length-drop (16 - n) new, long, few) in
    same_number_lists (drop (16 - n) new) (reverse (stored_by rule n)) (back ∙ sym (length-reverse (stored_by rule n) ∙ size)) (λ j h.
    let within : j < n = omega (arith, h, back) in
    let k : ℕ = n - 1 - j in
    let less : k < n = omega (arith, within) in
    let place : 16 - n + j ≡ 15 - k = omega (arith, few, within) in
    let other : length (stored_by rule n) - 1 - j ≡ k = omega (arith, size) in
    let stored : List ℕ = take k (stored_by rule n) in
    get_or-drop (16 - n) new j 0
    ∙ ap (slice_index new) place
    ∙ each k stored less (length-take-le k (stored_by rule n) (omega (arith, size, less)))
    ∙ sym ((each_is_stored rule n k less).1)
    ∙ ap (slice_index (stored_by rule n)) (sym other)
    ∙ sym (get_or-reverse (stored_by rule n) j 0 (omega (arith, size, within))))

-- each byte of a buffer of zeros
pub all_zero : (n j : ℕ) → slice_index (replicate n 0) j ≡ 0
all_zero zero j = refl
all_zero (suc n) zero = refl
all_zero (suc n) (suc j) = all_zero n j

-- a source, and a result, neither of them across address 0, that lie apart, and the source's bytes before the end of a
-- buffer
pub record Aligned (s : Storage) (a1 a2 n1 n2 : ℕ) (bytes buffer : List ℕ) : Type 0 where
  pub some1 : 0 < n1
  pub some2 : 0 < n2
  pub few : n2 ≤ 16
  pub fits1 : a1 + n1 ≤ 2 ^ 24
  pub fits2 : a2 + n2 ≤ 2 ^ 24
  pub apart : (a1 + n1 ≤ a2) ⊎ (a2 + n2 ≤ a1)
  pub there : span s a2 n2 ≡ Some bytes
  pub long : length bytes ≡ n2
  pub prefix : (j : ℕ) → j + length bytes < 32 → slice_index buffer j ≡ 0
  pub each : (j : ℕ) → j < length bytes → slice_index buffer (32 - length bytes + j) ≡ slice_index bytes j

-- a byte of the source isn't among those that were stored before
unstored : (a1 a2 n1 n2 i k : ℕ) → 0 < n1 → 0 < n2 → a1 + n1 ≤ 2 ^ 24 → a2 + n2 ≤ 2 ^ 24 → (a1 + n1 ≤ a2) ⊎ (a2 + n2 ≤ a1) → i < n2 → k < n1
    → k ≤ distance (address_after a2 (n2 - 1 - i)) (address_after a1 (n1 - 1))
unstored a1 a2 n1 n2 i k some1 some2 fits1 fits2 (inl prefix) h less = omega (arith, some1, some2, fits1, fits2, prefix, h, less)
unstored a1 a2 n1 n2 i k some1 some2 fits1 fits2 (inr back) h less = omega (arith, some1, some2, fits1, fits2, back, h, less)

source_within : (s : Storage) (a1 a2 n1 n2 i k : ℕ) (bytes buffer stored : List ℕ) → Aligned s a1 a2 n1 n2 bytes buffer → i < n2 → k < n1 → length stored ≤ k
    → source s (address_after a1 (n1 - 1)) n2 (address_after a2 (n2 - 1)) stored i ≡ slice_index buffer (31 - i)
unfolding source byte_seen
source_within s a1 a2 n1 n2 i k bytes buffer stored aligned h less few =
    let place : ℕ = n2 - 1 - i in
    let from : address_before (address_after a2 (n2 - 1)) i ≡ address_after a2 place = omega (arith, h, aligned.fits2) in
    let past : nat_lt (distance (address_after a2 place) (address_after a1 (n1 - 1))) (length stored) ≡ false =
    le-ltb (distance (address_after a2 place) (address_after a1 (n1 - 1))) (length stored)
    (omega (arith, few, unstored a1 a2 n1 n2 i k aligned.some1 aligned.some2 aligned.fits1 aligned.fits2 aligned.apart h less)) in
    let within : place < length bytes = omega (arith, aligned.long, h) in
    let spot : 32 - length bytes + place ≡ 31 - i = omega (arith, aligned.long, aligned.few, h) in
    let byte : slice_index bytes place ≡ slice_index buffer (31 - i) = sym (aligned.each place within) ∙ ap (slice_index buffer) spot in
    let low : a2 < 2 ^ 24 = omega (arith, aligned.some2, aligned.fits2) in
    rw (lt-ltb i n2 h, from, past, span_at s a2 n2 bytes place low aligned.there (omega (arith, within, aligned.long))) byte

source_missing : (s : Storage) (a1 a2 n1 n2 i : ℕ) (bytes buffer stored : List ℕ) → Aligned s a1 a2 n1 n2 bytes buffer → n2 ≤ i → i < 32
    → source s (address_after a1 (n1 - 1)) n2 (address_after a2 (n2 - 1)) stored i ≡ slice_index buffer (31 - i)
unfolding source
source_missing s a1 a2 n1 n2 i bytes buffer stored aligned h within =
    rw (le-ltb i n2 h) (sym (aligned.prefix (31 - i) (omega (arith, aligned.long, h, within))))

-- so what PACK and UNPK fetch is a byte of that buffer
source_is : (s : Storage) (a1 a2 n1 n2 i k : ℕ) (bytes buffer stored : List ℕ) → Aligned s a1 a2 n1 n2 bytes buffer → i < 32 → k < n1 → length stored ≤ k
    → source s (address_after a1 (n1 - 1)) n2 (address_after a2 (n2 - 1)) stored i ≡ slice_index buffer (31 - i)
source_is s a1 a2 n1 n2 i k bytes buffer stored aligned within less few = elim (cases_lt i n2) [
  | inl h ↦ source_within s a1 a2 n1 n2 i k bytes buffer stored aligned h less few
  | inr h ↦ source_missing s a1 a2 n1 n2 i bytes buffer stored aligned h within
]

one_packed : (s : Storage) (a1 a2 n1 n2 k : ℕ) (bytes buffer new stored : List ℕ) → Aligned s a1 a2 n1 n2 bytes buffer → n1 ≤ 16 → k < n1 → length stored ≡ k
    → ((j : ℕ) → j < 15 → slice_index new j ≡ slice_index buffer (2 * j + 1) % 16 * 16 + slice_index buffer (2 * j + 2) % 16)
    → slice_index new 15 ≡ swap_halves (slice_index buffer 31)
    → slice_index new (15 - k) ≡ packed_byte s (address_after a1 (n1 - 1)) n2 (address_after a2 (n2 - 1)) stored k
unfolding packed_byte
one_packed s a1 a2 n1 n2 k bytes buffer new stored aligned few1 less long each last = elim (cases_eq k 0) [
  | inl e ↦
      let own = source_is s a1 a2 n1 n2 0 k bytes buffer stored aligned (omega arith) less (omega (arith, long)) in
      rw e (rw own last)
  | inr ne ↦
      let left = source_is s a1 a2 n1 n2 (2 * k) k bytes buffer stored aligned (omega (arith, few1, less)) less (omega (arith, long)) in
      let right = source_is s a1 a2 n1 n2 (2 * k - 1) k bytes buffer stored aligned (omega (arith, few1, less)) less (omega (arith, long)) in
      let at1 : 2 * (15 - k) + 1 ≡ 31 - 2 * k = omega (arith, few1, less) in
      let at2 : 2 * (15 - k) + 2 ≡ 31 - (2 * k - 1) = omega (arith, few1, less, ne) in
      rw (ne_eqb k 0 ne, left, right, ← at1, ← at2) (each (15 - k) (omega (arith, ne, few1, less)))
]

pub aligned_is_packed : (s : Storage) (a1 a2 n1 n2 : ℕ) (bytes buffer new : List ℕ) → Aligned s a1 a2 n1 n2 bytes buffer → n1 ≤ 16 → length new ≡ 16
    → ((j : ℕ) → j < 15 → slice_index new j ≡ slice_index buffer (2 * j + 1) % 16 * 16 + slice_index buffer (2 * j + 2) % 16)
    → slice_index new 15 ≡ swap_halves (slice_index buffer 31)
    → drop (16 - n1) new ≡ reverse (stored_by (packed_byte s (address_after a1 (n1 - 1)) n2 (address_after a2 (n2 - 1))) n1)
aligned_is_packed s a1 a2 n1 n2 bytes buffer new aligned few long each last =
    ends_with (packed_byte s (address_after a1 (n1 - 1)) n2 (address_after a2 (n2 - 1))) n1 new long few
    (λ k stored less size. one_packed s a1 a2 n1 n2 k bytes buffer new stored aligned few less size each last)

half_is : (new buffer : List ℕ) (k : ℕ) → k < 16 → ((i : ℕ) → i < 8 → slice_index new (2 * i) ≡ 0xF0 + slice_index buffer (23 + i) % 16)
    → ((i : ℕ) → i < 7 → slice_index new (2 * i + 1) ≡ 0xF0 + slice_index buffer (24 + i) / 16)
    → slice_index new 15 ≡ swap_halves (slice_index buffer 31)
    → slice_index new (15 - k) ≡ unpacked_half k (slice_index buffer (31 - (k + 1) / 2))
half_is new buffer k few right left last = elim (cases_eq k 0) [
  | inl e ↦ rw e last
  | inr ne ↦ elim (cases_eq (k % 2) 0) [
    | inl even ↦
        let i : ℕ = 7 - k / 2 in
        let place : 2 * i + 1 ≡ 15 - k = omega (arith, few, even) in
        let spot : 24 + i ≡ 31 - (k + 1) / 2 = omega (arith, few, even) in
        rw (ne_eqb k 0 ne, even, ← place, ← spot) (left i (omega (arith, ne, even)))
    | inr odd ↦
        let i : ℕ = 7 - k / 2 in
        let place : 2 * i ≡ 15 - k = omega (arith, few, odd) in
        let spot : 23 + i ≡ 31 - (k + 1) / 2 = omega (arith, few, odd) in
        rw (ne_eqb k 0 ne, ne_eqb (k % 2) 0 odd, ← place, ← spot) (right i (omega arith))
  ]
]

one_unpacked : (s : Storage) (a1 a2 n1 n2 k : ℕ) (bytes buffer new stored : List ℕ) → Aligned s a1 a2 n1 n2 bytes buffer → n1 ≤ 16 → k < n1 → length stored ≡ k
    → ((i : ℕ) → i < 8 → slice_index new (2 * i) ≡ 0xF0 + slice_index buffer (23 + i) % 16)
    → ((i : ℕ) → i < 7 → slice_index new (2 * i + 1) ≡ 0xF0 + slice_index buffer (24 + i) / 16)
    → slice_index new 15 ≡ swap_halves (slice_index buffer 31)
    → slice_index new (15 - k) ≡ unpacked_byte s (address_after a1 (n1 - 1)) n2 (address_after a2 (n2 - 1)) stored k
unfolding unpacked_byte
one_unpacked s a1 a2 n1 n2 k bytes buffer new stored aligned few1 less long right left last =
    let fetched : ℕ = fetched_at k in
    let few : length (take (fetched_at k) stored) ≤ k = omega (arith, length-take (fetched_at k) stored, long) in
    let own = source_is s a1 a2 n1 n2 ((k + 1) / 2) k bytes buffer (take (fetched_at k) stored) aligned (omega (arith, few1, less)) less few in
    rw own (half_is new buffer k (omega (arith, few1, less)) right left last)

pub aligned_is_unpacked : (s : Storage) (a1 a2 n1 n2 : ℕ) (bytes buffer new : List ℕ) → Aligned s a1 a2 n1 n2 bytes buffer → n1 ≤ 16 → length new ≡ 16
    → ((i : ℕ) → i < 8 → slice_index new (2 * i) ≡ 0xF0 + slice_index buffer (23 + i) % 16)
    → ((i : ℕ) → i < 7 → slice_index new (2 * i + 1) ≡ 0xF0 + slice_index buffer (24 + i) / 16)
    → slice_index new 15 ≡ swap_halves (slice_index buffer 31)
    → drop (16 - n1) new ≡ reverse (stored_by (unpacked_byte s (address_after a1 (n1 - 1)) n2 (address_after a2 (n2 - 1))) n1)
aligned_is_unpacked s a1 a2 n1 n2 bytes buffer new aligned few long right left last =
    ends_with (unpacked_byte s (address_after a1 (n1 - 1)) n2 (address_after a2 (n2 - 1))) n1 new long few
    (λ k stored less size. one_unpacked s a1 a2 n1 n2 k bytes buffer new stored aligned few less size right left last)
