-- Bytes that are written, filled and copied a block at a time.
use Rattle.std.proofs.Common.{◌≡◌, ◌<◌, ◌≤◌, ◌+◌, ◌-◌, ◌++◌, ◌^◌, ℕ, suc, List, [], ◌∷◌, length, take, drop, replicate, slice_index, Option, Some, None, is_some, unwrap_or, true, refl, sym, ap, ◌∙◌, arith}
use Rattle.std.proofs.lemmas.Bool.{le-ltb}
use Rattle.std.proofs.lemmas.List.{get_or-drop, get_or-take, length-append, length-drop, length-replicate, length-take-le, replicate-append-replicate, take_all}
use Rattle.std.proofs.Math.Seq.{take-add}
use Rattle.cx_storage.specs.Address.{address_after, distance}
use Rattle.cx_storage.specs.Storage.{Storage, byte_at, span, with_byte, with_bytes, after_write}
use Rattle.cx_storage.specs.Facts.Spans.{span_at, span_from, span_has, span_inside, span_length}
use Rattle.cx_storage.specs.Facts.Writes.{byte_after_write, span_present_after_write, written_whole}
use Rattle.cx_region_task.specs.Parts.Making.{AreBlocksApart}

-- ---- bytes after others
with_bytes_joined : (s : Storage) (a : ℕ) (first rest : List ℕ) → a < 2 ^ 24
    → with_bytes s a (first ++ rest) ≡ with_bytes (with_bytes s a first) (address_after a (length first)) rest
unfolding with_bytes
with_bytes_joined s a [] rest below = let same : address_after a 0 ≡ a = omega (arith, below) in rw same refl
with_bytes_joined s a (b ∷ bs) rest below =
    let next : address_after a (suc (length bs)) ≡ address_after (address_after a 1) (length bs) = omega arith in
    rw next (with_bytes_joined (with_byte s a b) (address_after a 1) bs rest (omega arith))

-- a part of a span that is there, and doesn't go on at address 0
part_there : (s : Storage) (a n b m : ℕ) → a + n ≤ 2 ^ 24 → is_some (span s a n) ≡ true → a ≤ b → b + m ≤ a + n → is_some (span s b m) ≡ true
part_there s a n b m fits there low high =
    span_inside s b m (omega arith) (λ x from to.
    let back : address_after a (x - a) ≡ x = omega (arith, fits, low, high, from, to) in
    rw back at (span_has s a n (x - a) (omega (arith, fits, high, from, to, low)) there (omega (arith, high, from, to, low))))

pub written_further : (s : Storage) (a len : ℕ) (first rest : List ℕ) → a + len ≤ 2 ^ 24 → is_some (span s a len) ≡ true → length first + length rest ≤ len → 0 < length rest
    → after_write (after_write s a first) (a + length first) rest ≡ after_write s a (first ++ rest)
written_further s a len first rest fits there few some =
    let n = length first in
    let m = length rest in
    let begun : is_some (span s a n) ≡ true = part_there s a len a n fits there (omega arith) (omega (arith, few)) in
    let whole : is_some (span s a (length (first ++ rest))) ≡ true = rw (length-append first rest) (part_there s a len a (n + m) fits there (omega arith) (omega (arith, few))) in
    let last : is_some (span (after_write s a first) (a + n) m) ≡ true =
    span_present_after_write s a first (a + n) m ∙ part_there s a len (a + n) m fits there (omega arith) (omega (arith, few)) in
    let next : address_after a n ≡ a + n = omega (arith, fits, few, some) in
    written_whole (after_write s a first) (a + n) rest last
    ∙ ap (λ (t : Storage). with_bytes t (a + n) rest) (written_whole s a first begun)
    ∙ ap (λ (b : ℕ). with_bytes (with_bytes s a first) b rest) (sym next)
    ∙ sym (with_bytes_joined s a first rest (omega (arith, fits, few, some)))
    ∙ sym (written_whole s a (first ++ rest) whole)

pub filled_further : (s : Storage) (a len n m byte : ℕ) → a + len ≤ 2 ^ 24 → is_some (span s a len) ≡ true → n + m ≤ len → 0 < m
    → after_write (after_write s a (replicate n byte)) (a + n) (replicate m byte) ≡ after_write s a (replicate (n + m) byte)
filled_further s a len n m byte fits there few some =
    let before : length {A = ℕ} (replicate n byte) ≡ n = length-replicate n byte in
    let more : length {A = ℕ} (replicate m byte) ≡ m = length-replicate m byte in
    ap (λ (k : ℕ). after_write (after_write s a (replicate n byte)) (a + k) (replicate m byte)) (sym before)
    ∙ written_further s a len (replicate n byte) (replicate m byte) fits there (omega (arith, before, more, few)) (omega (arith, more, some))
    ∙ ap (λ (bytes : List ℕ). after_write s a bytes) (replicate-append-replicate n m byte)

pub none_written : (s : Storage) (a : ℕ) → s ≡ after_write s a []
unfolding after_write with_bytes span
none_written s a = refl

-- ---- bytes copied to others
-- what is left to be copied is as before
read_further : (s : Storage) (from to len n m : ℕ) (bytes : List ℕ) → from < 2 ^ 24 → to + len ≤ 2 ^ 24 → span s from len ≡ Some bytes → is_some (span s to len) ≡ true
    → AreBlocksApart from to len → n + m ≤ len → 0 < m → span (after_write s to (take n bytes)) (address_after from n) m ≡ Some (take m (drop n bytes))
read_further s from to len n m bytes low fits is there apart few some =
    let all : length bytes ≡ len = span_length s from len bytes is in
    let front : length (take n bytes) ≡ n = length-take-le n bytes (omega (arith, all, few)) in
    let begun : is_some (span s to (length (take n bytes))) ≡ true = rw front (part_there s to len to n fits there (omega arith) (omega (arith, few))) in
    let part : length (take m (drop n bytes)) ≡ m = length-take-le m (drop n bytes) (rw (length-drop n bytes) (omega (arith, all, few))) in
    span_from (after_write s to (take n bytes)) (address_after from n) m (take m (drop n bytes)) (omega arith) part (λ k h.
    let same : address_after (address_after from n) k ≡ address_after from (n + k) = omega arith in
    let aside = apart (n + k) (omega (arith, h, few)) in
    let value : slice_index (take m (drop n bytes)) k ≡ slice_index bytes (n + k) = get_or-take m (drop n bytes) k 0 h ∙ get_or-drop n bytes k 0 in
    let at = byte_after_write s to (take n bytes) (address_after from (n + k)) (omega (arith, fits, few, some)) (omega arith) (omega (arith, front, fits, few)) begun in
    ap (λ (x : ℕ). byte_at (after_write s to (take n bytes)) x) same
    ∙ at
    ∙ rw (le-ltb (distance to (address_after from (n + k))) (length (take n bytes)) (omega (arith, front, few, aside)))
    (span_at s from len bytes (n + k) low is (omega (arith, h, few)) ∙ ap Some (sym value)))

pub copied_further : (s : Storage) (from to len n m : ℕ) (old : List ℕ) → from < 2 ^ 24 → to + len ≤ 2 ^ 24 → is_some (span s from len) ≡ true → is_some (span s to len) ≡ true
    → AreBlocksApart from to len → n + m ≤ len → 0 < m
    → let bytes = unwrap_or (span s from len) [] in
    let t = after_write s to (take n bytes) in
    after_write t (to + n) (unwrap_or (span t (address_after from n) m) old) ≡ after_write s to (take (n + m) bytes)
copied_further s from to len n m old low fits source there apart few some = go (span s from len) refl source
  where
    go : (read : Option (List ℕ)) → span s from len ≡ read → is_some read ≡ true
        → let bytes = unwrap_or read [] in
        let t = after_write s to (take n bytes) in
        after_write t (to + n) (unwrap_or (span t (address_after from n) m) old) ≡ after_write s to (take (n + m) bytes)
    go None is have = absurd (cc)
    go (Some bytes) is have =
        let all : length bytes ≡ len = span_length s from len bytes is in
        let front : length (take n bytes) ≡ n = length-take-le n bytes (omega (arith, all, few)) in
        let part : length (take m (drop n bytes)) ≡ m = length-take-le m (drop n bytes) (rw (length-drop n bytes) (omega (arith, all, few))) in
        let t : Storage = after_write s to (take n bytes) in
        ap (λ (read : Option (List ℕ)). after_write t (to + n) (unwrap_or read old)) (read_further s from to len n m bytes low fits is there apart few some)
        ∙ ap (λ (k : ℕ). after_write t (to + k) (take m (drop n bytes))) (sym front)
        ∙ written_further s to len (take n bytes) (take m (drop n bytes)) fits there (omega (arith, front, part, few)) (omega (arith, part, some))
        ∙ ap (λ (bs : List ℕ). after_write s to bs) (sym (take-add n m bytes))

-- all of them were copied
pub copied_whole : (s : Storage) (from to len n : ℕ) → len ≤ n → is_some (span s from len) ≡ true
    → after_write s to (take n (unwrap_or (span s from len) [])) ≡ after_write s to (unwrap_or (span s from len) [])
copied_whole s from to len n all source = go (span s from len) refl source
  where
    go : (read : Option (List ℕ)) → span s from len ≡ read → is_some read ≡ true → after_write s to (take n (unwrap_or read [])) ≡ after_write s to (unwrap_or read [])
    go None is have = absurd (cc)
    go (Some bytes) is have = ap (λ (bs : List ℕ). after_write s to bs) (take_all n bytes (omega (arith, span_length s from len bytes is, all)))
