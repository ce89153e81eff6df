-- A word raised in a list of bytes, and all words of a list raised.
use Rattle.std.proofs.Common.{◌≡◌, ℕ, zero, suc, ◌+◌, ◌-◌, ◌%◌, ◌^◌, ◌<◌, ◌≤◌, true, false, IsTrue, List, [], ◌∷◌, ◌++◌, length, take, drop, refl, sym, ◌∙◌, ap, subst, inl, inr, arith, append_assoc}
use Rattle.std.specs.Prelude.{nat_le, nat_lt, slice_index}
use Rattle.std.specs.List.{list_all, list_any}
use Rattle.std.proofs.lemmas.List.{append-nil, length-take, length-append, length-drop, drop-drop, get_or-take, get_or-drop, get_or_append_left, get_or-append_right}
use Rattle.std.proofs.Math.ListN.{drop_of_length-le}
use Rattle.std.proofs.lemmas.Bool.{and_cases, leb-false, ltb-false}
use borrow.Rule.Slice.PartMut.{put_mid}
use Rattle.byteorder.specs.Endian.{big_bytes, big_from}
use Rattle.byteorder.specs.Numbers.{big_from-cons, big_number-reads_back}
use Rattle.cx_load.specs.Fault.{are_inside, are_apart, is_apart, all_apart}
use Rattle.cx_load.specs.Laws.Words.{is_of_word}
use Rattle.cx_load.specs.Relocation.{word_in, relocate_word, relocated_text}
use Rattle.cx_load.proofs.ApartLemmas.{both, neither, inside_parts, not_of_other, apart_at, apart_swap}

-- four bytes written in the middle of others
pub put_word : (bytes word buf : List ℕ) (r k : ℕ) → k ≡ 4 → buf ≡ word ++ drop 4 (take k (drop r bytes))
    → put_mid r k bytes buf ≡ (take r bytes ++ word) ++ drop (r + 4) bytes
put_word bytes word buf r k four wrote =
    let mid : drop 4 (take 4 (drop r bytes)) ≡ [] = let short : length (take 4 (drop r bytes)) ≤ 4 = simp length-take (omega arith) in drop_of_length-le (take 4 (drop r bytes)) short in
    let whole : buf ≡ word =
    wrote ∙ ap (λ n. word ++ drop 4 (take n (drop r bytes))) four ∙ ap (λ l. word ++ l) mid ∙ append-nil word in
    let after : drop k (drop r bytes) ≡ drop (r + 4) bytes =
    ap (λ n. drop n (drop r bytes)) four ∙ drop-drop 4 r bytes in
    ap (λ b. take r bytes ++ (b ++ drop k (drop r bytes))) whole ∙ ap (λ l. take r bytes ++ (word ++ l)) after
    ∙ sym (append_assoc (take r bytes) word (drop (r + 4) bytes))

byte_of_part : (bytes : List ℕ) (r i : ℕ) → i < 4 → slice_index (take 4 (drop r bytes)) i ≡ slice_index bytes (r + i)
byte_of_part bytes r i h = get_or-take 4 (drop r bytes) i 0 h ∙ get_or-drop r bytes i 0

-- the word at an offset, read from its four bytes alone
pub word_of_part : (bytes : List ℕ) (r k : ℕ) → k ≡ 4 → big_from 0 4 (take k (drop r bytes)) ≡ big_from r 4 bytes
word_of_part bytes r k four =
    let first : slice_index (take 4 (drop r bytes)) 0 ≡ slice_index bytes r = byte_of_part bytes r 0 (omega arith) ∙ ap (slice_index bytes) (omega arith) in
    let second : slice_index (take 4 (drop r bytes)) 1 ≡ slice_index bytes (suc r) = byte_of_part bytes r 1 (omega arith) ∙ ap (slice_index bytes) (omega arith) in
    let third : slice_index (take 4 (drop r bytes)) 2 ≡ slice_index bytes (suc (suc r)) = byte_of_part bytes r 2 (omega arith) ∙ ap (slice_index bytes) (omega arith) in
    let fourth : slice_index (take 4 (drop r bytes)) 3 ≡ slice_index bytes (suc (suc (suc r))) = byte_of_part bytes r 3 (omega arith) ∙ ap (slice_index bytes) (omega arith) in
    ap (λ n. big_from 0 4 (take n (drop r bytes))) four ∙ omega (arith, first, second, third, fourth)

pub length-raised : (at r : ℕ) (bytes : List ℕ) → r + 4 ≤ length bytes → length (relocate_word at r bytes) ≡ length bytes
unfolding relocate_word
length-raised at r bytes fits = simp (length-append, length-take, length-drop) (omega arith)

still_inside : (at r : ℕ) (relocs bytes : List ℕ) → r + 4 ≤ length bytes → IsTrue (are_inside (length bytes) relocs) → IsTrue (are_inside (length (relocate_word at r bytes)) relocs)
still_inside at r relocs bytes fits all = subst (λ (n : ℕ). IsTrue (are_inside n relocs)) (sym (length-raised at r bytes fits)) all

pub length-relocated : (at : ℕ) (relocs text : List ℕ) → IsTrue (are_inside (length text) relocs) → length (relocated_text at relocs text) ≡ length text
length-relocated at [] text all = refl
length-relocated at (r ∷ relocs) text all =
    let parts = inside_parts (length text) r relocs all in
    length-relocated at relocs (relocate_word at r text) (still_inside at r relocs text parts.0 parts.1) ∙ length-raised at r text parts.0

-- the word after some bytes
word_after : (front rest : List ℕ) → big_from (length front) 4 (front ++ rest) ≡ big_from 0 4 rest
word_after [] rest = refl
word_after (b ∷ front) rest = big_from-cons (length front) 4 b (front ++ rest) ∙ word_after front rest

word_raised : (at r : ℕ) (bytes : List ℕ) → r + 4 ≤ length bytes → word_in (relocate_word at r bytes) r ≡ (word_in bytes r + at) % 2 ^ 32
unfolding relocate_word
word_raised at r bytes fits =
    let value = (word_in bytes r + at) % 2 ^ 32 in
    let front : length (take r bytes) ≡ r = simp length-take (omega arith) in
    let whole : (take r bytes ++ big_bytes 4 value) ++ drop (r + 4) bytes ≡ take r bytes ++ (big_bytes 4 value ++ drop (r + 4) bytes) = append_assoc (take r bytes) (big_bytes 4 value) (drop (r + 4) bytes) in
    let there = word_after (take r bytes) (big_bytes 4 value ++ drop (r + 4) bytes) in
    let here = rw front at there in
    ap (λ l. big_from r 4 l) whole ∙ here ∙ big_number-reads_back 4 value (drop (r + 4) bytes) (omega arith)

-- a byte outside a word that is raised
byte_aside : (at r k : ℕ) (bytes : List ℕ) → r + 4 ≤ length bytes → is_of_word k r ≡ false → slice_index (relocate_word at r bytes) k ≡ slice_index bytes k
unfolding relocate_word
byte_aside at r k bytes fits out =
    let word = big_bytes 4 ((word_in bytes r + at) % 2 ^ 32) in
    let front : length (take r bytes) ≡ r = simp length-take (omega arith) in
    let whole : length (take r bytes ++ word) ≡ r + 4 = simp length-append (omega (arith, front)) in
    elim (and_cases (nat_le r k) (nat_lt k (r + 4)) out) [
      | inl below ↦
          let before : k < r = leb-false r k below in
          get_or_append_left (take r bytes ++ word) (drop (r + 4) bytes) 0 k (omega (arith, whole))
          ∙ get_or_append_left (take r bytes) word 0 k (omega (arith, front)) ∙ get_or-take r bytes k 0 before
      | inr past ↦
          let beyond : r + 4 ≤ k = ltb-false k (r + 4) past in
          let back : r + 4 + (k - (r + 4)) ≡ k = omega arith in
          get_or-append_right (take r bytes ++ word) (drop (r + 4) bytes) (r + 4) k 0 whole beyond
          ∙ get_or-drop (r + 4) bytes (k - (r + 4)) 0 ∙ ap (slice_index bytes) back
    ]

word_of_bytes : (xs ys : List ℕ) (r : ℕ) → ((k : ℕ) → r ≤ k → k < r + 4 → slice_index xs k ≡ slice_index ys k) → word_in xs r ≡ word_in ys r
word_of_bytes xs ys r same =
    let first = same r (omega arith) (omega arith) in
    let second = same (suc r) (omega arith) (omega arith) in
    let third = same (suc (suc r)) (omega arith) (omega arith) in
    let fourth = same (suc (suc (suc r))) (omega arith) (omega arith) in
    rw (first, second, third, fourth) refl

word_aside : (at r q : ℕ) (bytes : List ℕ) → q + 4 ≤ length bytes → are_apart r q ≡ true → word_in (relocate_word at q bytes) r ≡ word_in bytes r
word_aside at r q bytes fits apart =
    word_of_bytes (relocate_word at q bytes) bytes r (λ k low high. byte_aside at q k bytes fits (not_of_other r q k apart low high))

-- a word apart from all that are raised
word_kept : (at r : ℕ) (relocs bytes : List ℕ) → IsTrue (are_inside (length bytes) relocs) → is_apart r relocs ≡ true → word_in (relocated_text at relocs bytes) r ≡ word_in bytes r
unfolding is_apart
word_kept at r [] bytes all apart = refl
word_kept at r (q ∷ relocs) bytes all apart =
    let parts = inside_parts (length bytes) q relocs all in
    let aparts = both (are_apart r q) (list_all (λ p. are_apart r p) relocs) apart in
    word_kept at r relocs (relocate_word at q bytes) (still_inside at q relocs bytes parts.0 parts.1) aparts.1
    ∙ word_aside at r q bytes parts.0 aparts.0

-- each relocated word is raised
pub word_relocated : (at i : ℕ) (relocs bytes : List ℕ) → IsTrue (all_apart relocs) → IsTrue (are_inside (length bytes) relocs) → i < length relocs
    → word_in (relocated_text at relocs bytes) (slice_index relocs i) ≡ (word_in bytes (slice_index relocs i) + at) % 2 ^ 32
word_relocated at i [] bytes apart all h = absurd (omega arith)
word_relocated at zero (r ∷ relocs) bytes apart all h =
    let parts = inside_parts (length bytes) r relocs all in
    let aparts = both (is_apart r relocs) (all_apart relocs) apart in
    word_kept at r relocs (relocate_word at r bytes) (still_inside at r relocs bytes parts.0 parts.1) aparts.0 ∙ word_raised at r bytes parts.0
word_relocated at (suc i) (r ∷ relocs) bytes apart all h =
    let parts = inside_parts (length bytes) r relocs all in
    let aparts = both (is_apart r relocs) (all_apart relocs) apart in
    let rest = word_relocated at i relocs (relocate_word at r bytes) aparts.1 (still_inside at r relocs bytes parts.0 parts.1) (omega arith) in
    let aside = word_aside at (slice_index relocs i) r bytes parts.0 (apart_swap r (slice_index relocs i) (apart_at r relocs i aparts.0 (omega arith))) in
    rest ∙ ap (λ n. (n + at) % 2 ^ 32) aside

-- a byte of no relocated word stays
pub byte_kept : (at k : ℕ) (relocs bytes : List ℕ) → IsTrue (are_inside (length bytes) relocs) → list_any (is_of_word k) relocs ≡ false
    → slice_index (relocated_text at relocs bytes) k ≡ slice_index bytes k
byte_kept at k [] bytes all out = refl
byte_kept at k (r ∷ relocs) bytes all out =
    let parts = inside_parts (length bytes) r relocs all in
    let outs = neither (is_of_word k r) (list_any (is_of_word k) relocs) out in
    byte_kept at k relocs (relocate_word at r bytes) (still_inside at r relocs bytes parts.0 parts.1) outs.1
    ∙ byte_aside at r k bytes parts.0 outs.0
