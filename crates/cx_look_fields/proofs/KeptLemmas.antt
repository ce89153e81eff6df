-- Bytes that were kept are those of the storage.
use Rattle.std.proofs.Common.{◌≡◌, ◌<◌, ◌≤◌, ◌+◌, ◌^◌, ℕ, true, Option, Some, List, drop, length, take, sym, ap, ◌∙◌, arith}
use Rattle.std.specs.Prelude.{min, nat_le, slice_index}
use Rattle.std.proofs.lemmas.Bool.{le-leb}
use Rattle.std.proofs.lemmas.List.{get_or-drop, get_or-take, length-drop, length-take}
use Rattle.cx_storage.specs.Address.{address_after}
use Rattle.cx_storage.specs.Facts.Spans.{span_at, span_from, span_length}
use Rattle.cx_storage.specs.Storage.{Storage, byte_at, span}
use Rattle.cx_look_fields.specs.Readings.{reading_named}
use Rattle.cx_look_fields.specs.FieldTexts.{field_bytes_word, field_words}
use Rattle.cx_look_fields.specs.KeptFields.{first_bytes, kept_field}
use Rattle.cx_look_fields.specs.Laws.{KeptFieldsAreOfStorage}

part_at : (bytes : List ℕ) (offset n k : ℕ) → k < n → slice_index (take n (drop offset bytes)) k ≡ slice_index bytes (offset + k)
part_at bytes offset n k h = get_or-take n (drop offset bytes) k 0 h ∙ get_or-drop offset bytes k 0

part_long : (bytes : List ℕ) (offset n count : ℕ) → length bytes ≡ count → offset + n ≤ count → (n ≤ length (drop offset bytes)) × (length (take n (drop offset bytes)) ≡ n)
part_long bytes offset n count e h =
    let left = length-drop offset bytes in
    let first = length-take n (drop offset bytes) in
    (omega (arith, left, e, h), omega (arith, left, first, e, h))

part_of : (s : Storage) (at count offset n : ℕ) (bytes : List ℕ) → at < 2 ^ 24 → span s at count ≡ Some bytes → offset + n ≤ count
    → first_bytes n (drop offset bytes) ≡ span s (address_after at offset) n
part_of s at count offset n bytes small is h =
    let size = span_length s at count bytes is in
    let long = part_long bytes offset n count size h in
    let all = span_from s (address_after at offset) n (take n (drop offset bytes)) (omega arith) long.1 each in
    let there : nat_le n (length (drop offset bytes)) ≡ true = le-leb n (length (drop offset bytes)) long.0 in
    rw there (sym all)
  where
    each : (k : ℕ) → k < n → byte_at s (address_after (address_after at offset) k) ≡ Some (slice_index (take n (drop offset bytes)) k)
    each k l =
        let next : address_after (address_after at offset) k ≡ address_after at (offset + k) = omega arith in
        let it = span_at s at count bytes (offset + k) small is (omega (arith, l, h)) in
        rw (next, part_at bytes offset n k l) it

pub kept_fields_are_of_storage : KeptFieldsAreOfStorage
kept_fields_are_of_storage s at count bytes term readings name value offset small is h =
    ap (λ (o : Option (List ℕ)). field_words term name (kept_field at offset value) (field_bytes_word (reading_named readings name) o))
    (part_of s at count offset (min 32 value.length) bytes small is h)
