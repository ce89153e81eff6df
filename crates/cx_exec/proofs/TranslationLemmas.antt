-- TRT's search.
use Rattle.std.proofs.Common.{◌≡◌, ◌≢◌, ◌⊎◌, ℕ, zero, suc, ◌+◌, ◌^◌, ◌<◌, ◌≤◌, nat_lt, Bool, true, false, ◌==◌, List, length, slice_index, take, Option, Some, None, find, refl, sym, ◌∙◌, ap, inl, inr, arith}
use Rattle.std.proofs.lemmas.Grind.{same_number_lists}
use Rattle.std.proofs.lemmas.List.{get_or-take, length-take-le}
use Rattle.cx_storage.specs.Address.{address_after, distance}
use Rattle.cx_storage.specs.Facts.Spans.{span_at, span_length}
use Rattle.std.specs.Prelude.{IfSome, unwrap_or}
use Rattle.cx_exec.specs.Sequence.{content_at, byte_seen, stored_by}
use Rattle.cx_exec.proofs.SequenceLemmas.{each_is_stored, stored_length}
use Rattle.std.specs.List.{range_with_len}
use Rattle.std.proofs.lemmas.Bool.{le-ltb, ne_eqb}
use Rattle.cx_storage.specs.Storage.{Storage, span}
use Rattle.cx_exec.specs.Translation.{HasTable, table_byte, ends_search, first_found, translated_byte}

nothing_found : (test : ℕ → Bool) (a n : ℕ) → ((j : ℕ) → j < n → test (a + j) ≡ false) → find test (range_with_len a n) ≡ None
nothing_found test a zero all = refl
nothing_found test a (suc n) all =
    let first : test a ≡ false = rw (nothing a) at (all 0 (omega arith)) in
    rw first (nothing_found test (a + 1) n (λ j h. let next : a + 1 + j ≡ a + suc j = omega arith in rw next (all (suc j) (omega arith))))
  where
    nothing : (a : ℕ) → a + 0 ≡ a
    nothing a = omega arith

one_found : (test : ℕ → Bool) (a n k : ℕ) → k < n → ((j : ℕ) → j < k → test (a + j) ≡ false) → test (a + k) ≡ true → find test (range_with_len a n) ≡ Some (a + k)
one_found test a zero k h all e = absurd (omega (arith, h))
one_found test a (suc n) zero h all e =
    let here : a + 0 ≡ a = omega arith in
    let first : test a ≡ true = rw here at e in
    rw (first, here) refl
one_found test a (suc n) (suc k) h all e =
    let here : a + 0 ≡ a = omega arith in
    let first : test a ≡ false = rw here at (all 0 (omega arith)) in
    let place : a + 1 + k ≡ a + suc k = omega arith in
    let last : test (a + 1 + k) ≡ true = rw place e in
    let rest = one_found test (a + 1) n k (omega (arith, h)) (λ j l. let next : a + 1 + j ≡ a + suc j = omega arith in rw next (all (suc j) (omega arith))) last in
    rw first (rest ∙ ap Some place)

goes_on : (o : Option ℕ) → o ≡ Some 0 → ends_search o ≡ false
goes_on o e = rw e refl

ends : (o : Option ℕ) → o ≢ Some 0 → ends_search o ≡ true
ends None e = refl
ends (Some b) e = let other : (b == 0) ≡ false = ne_eqb b 0 (λ same. e (ap Some same)) in rw other refl

pub none_found : (s : Storage) (n a1 a2 : ℕ) → ((j : ℕ) → j < n → table_byte s a1 a2 j ≡ Some 0) → first_found s n a1 a2 ≡ None
unfolding first_found
none_found s n a1 a2 all =
    nothing_found (λ k. ends_search (table_byte s a1 a2 k)) 0 n (λ j h. let here : 0 + j ≡ j = omega arith in rw here (goes_on (table_byte s a1 a2 j) (all j h)))

pub found_first : (s : Storage) (n a1 a2 k : ℕ) → k < n → ((j : ℕ) → j < k → table_byte s a1 a2 j ≡ Some 0) → table_byte s a1 a2 k ≢ Some 0 → first_found s n a1 a2 ≡ Some k
unfolding first_found
found_first s n a1 a2 k h all e =
    let here : 0 + k ≡ k = omega arith in
    let found = one_found (λ k. ends_search (table_byte s a1 a2 k)) 0 n k h
    (λ j l. let place : 0 + j ≡ j = omega arith in rw place (goes_on (table_byte s a1 a2 j) (all j l))) (rw here (ends (table_byte s a1 a2 k) e)) in
    found ∙ ap Some here

-- ---- TR of an argument and a table that are lent, and apart
table_is : (s : Storage) (a1 a2 n k : ℕ) (argument table : List ℕ) → a1 < 2 ^ 24 → a2 < 2 ^ 24 → span s a1 n ≡ Some argument → span s a2 256 ≡ Some table
    → k < n → slice_index argument k < 256 → table_byte s a1 a2 k ≡ Some (slice_index table (slice_index argument k))
table_is s a1 a2 n k argument table low1 low2 e f h small =
    rw (span_at s a1 n argument k low1 e h) (span_at s a2 256 table (slice_index argument k) low2 f small)

-- a table's byte isn't among those that were stored before
unstored : (a1 a2 n x k : ℕ) → a1 < 2 ^ 24 → a2 < 2 ^ 24 → a1 + n ≤ 2 ^ 24 → a2 + 256 ≤ 2 ^ 24 → (a1 + n ≤ a2) ⊎ (a2 + 256 ≤ a1) → x < 256 → k ≤ n
    → k ≤ distance a1 (address_after a2 x)
unstored a1 a2 n x k low1 low2 fits1 fits2 (inl prefix) small few = omega (arith, low1, low2, fits1, fits2, prefix, small, few)
unstored a1 a2 n x k low1 low2 fits1 fits2 (inr back) small few = omega (arith, low1, low2, fits1, fits2, back, small, few)

one_translated : (s : Storage) (a1 a2 n k : ℕ) (argument table stored : List ℕ) → a1 < 2 ^ 24 → a2 < 2 ^ 24 → a1 + n ≤ 2 ^ 24 → a2 + 256 ≤ 2 ^ 24
    → (a1 + n ≤ a2) ⊎ (a2 + 256 ≤ a1) → span s a1 n ≡ Some argument → span s a2 256 ≡ Some table → k < n → slice_index argument k < 256 → length stored ≡ k
    → translated_byte s a1 a2 stored k ≡ slice_index table (slice_index argument k)
unfolding translated_byte byte_seen
one_translated s a1 a2 n k argument table stored low1 low2 fits1 fits2 apart e f h small long =
    let x : ℕ = slice_index argument k in
    let own : content_at s (address_after a1 k) ≡ x = rw (span_at s a1 n argument k low1 e h) refl in
    let past : nat_lt (distance a1 (address_after a2 x)) (length stored) ≡ false = le-ltb (distance a1 (address_after a2 x)) (length stored) (omega (arith, long, unstored a1 a2 n x k low1 low2 fits1 fits2 apart small (omega (arith, h)))) in
    rw (own, past, span_at s a2 256 table x low2 f small) refl

pub lent_translated : (s : Storage) (a1 a2 n : ℕ) (argument table new : List ℕ) → a1 < 2 ^ 24 → a2 < 2 ^ 24 → a1 + n ≤ 2 ^ 24 → a2 + 256 ≤ 2 ^ 24
    → (a1 + n ≤ a2) ⊎ (a2 + 256 ≤ a1) → span s a1 n ≡ Some argument → span s a2 256 ≡ Some table → length new ≡ 256 → n ≤ 256
    → ((k : ℕ) → k < length argument → (slice_index argument k < 256) × (slice_index new k ≡ slice_index table (slice_index argument k)))
    → HasTable s n a1 a2 × (take n new ≡ stored_by (translated_byte s a1 a2) n)
unfolding HasTable
lent_translated s a1 a2 n argument table new low1 low2 fits1 fits2 apart e f whole few each =
    let size : length argument ≡ n = span_length s a1 n argument e in
    let long : length (take n new) ≡ n = length-take-le n new (omega (arith, whole, few)) in (
      λ k h. let byte = table_is s a1 a2 n k argument table low1 low2 e f h (each k (omega (arith, h, size))).0 in rw byte refl,
      same_number_lists (take n new) (stored_by (translated_byte s a1 a2) n) (long ∙ sym (stored_length (translated_byte s a1 a2) n)) (λ k less.
          let within : k < n = omega (arith, less, long) in
          let looked = each k (omega (arith, within, size)) in
          let stored : List ℕ = take k (stored_by (translated_byte s a1 a2) n) in
          get_or-take n new k 0 within ∙ looked.1
          ∙ sym
          ((each_is_stored (translated_byte s a1 a2) n k within).1
          ∙ one_translated s a1 a2 n k argument table stored low1 low2 fits1 fits2 apart e f within looked.0
          (length-take-le k (stored_by (translated_byte s a1 a2) n) (omega (arith, within, stored_length (translated_byte s a1 a2) n))))),
    )

-- ---- TRT of an argument and a table that are lent
pub lent_first : (s : Storage) (a1 a2 n : ℕ) (argument table : List ℕ) (place : Option ℕ) → a1 < 2 ^ 24 → a2 < 2 ^ 24 → span s a1 n ≡ Some argument → span s a2 256 ≡ Some table
    → ((j : ℕ) → j < unwrap_or place (length argument) → (slice_index argument j < 256) × (slice_index table (slice_index argument j) ≡ 0))
    → IfSome place (λ k. (k < length argument) × (slice_index argument k < 256) × (slice_index table (slice_index argument k) ≢ 0))
    → (place ≡ first_found s n a1 a2) × IfSome place (λ k. k < n)
lent_first s a1 a2 n argument table None low1 low2 e f zero_all found =
    let size : length argument ≡ n = span_length s a1 n argument e in (
      sym (none_found s n a1 a2 (λ j h.
          let byte = zero_all j (omega (arith, h, size)) in
          table_is s a1 a2 n j argument table low1 low2 e f h byte.0 ∙ ap Some byte.1)),
      tt,
    )
lent_first s a1 a2 n argument table (Some k) low1 low2 e f before found =
    let size : length argument ≡ n = span_length s a1 n argument e in
    let within : k < n = omega (arith, found.0, size) in
    let here = table_is s a1 a2 n k argument table low1 low2 e f within found.1 in (
      sym (found_first s n a1 a2 k within
          (λ j h. let byte = before j h in table_is s a1 a2 n j argument table low1 low2 e f (omega (arith, h, within)) byte.0 ∙ ap Some byte.1)
          (λ same. found.2 (cc-some (sym here ∙ same)))),
      within,
    )
  where
    cc-some : {a b : ℕ} → ◌≡◌ {A = Option ℕ} (Some a) (Some b) → a ≡ b
    cc-some e = cc
