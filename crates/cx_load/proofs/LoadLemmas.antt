-- Places of programs.
use Rattle.std.proofs.Common.{◌≡◌, ℕ, ◌+◌, ◌<◌, ◌≤◌, true, Some, None, List, ◌++◌, length, take, drop, replicate, refl, sym, ◌∙◌, ap, arith}
use Rattle.std.specs.Prelude.{is_some, slice_index}
use Rattle.std.proofs.lemmas.List.{get_or-replicate, length-replicate, take-append-le, take_all}
use Rattle.cx_storage.specs.declared.areas.Owner.{Owner}
use Rattle.cx_storage.specs.Storage.{Storage, byte_at, covers, span, with_area, after_write}
use Rattle.cx_storage.specs.Address.{address_after}
use Rattle.cx_storage.specs.Facts.Sound.{covers_from}
use Rattle.cx_storage.specs.Storage.{area_from}
use Rattle.cx_storage.specs.Facts.Areas.{byte_after_get}
use Rattle.cx_storage.specs.Facts.Places.{place_decides}
use Rattle.cx_storage.specs.Facts.Spans.{span_from}
use Rattle.cx_storage.specs.Facts.Writes.{span_after_write}
use Rattle.cx_storage.specs.Place.{IsLeastPlace, CanPlace}
use Rattle.cx_code.specs.declared.image.Image.{Image}
use Rattle.cx_load.specs.declared.program.Loaded.{Loaded}
use Rattle.cx_load.specs.Fault.{IsFit}
use Rattle.cx_load.specs.Facts.Faults.{facts_of_fit}
use Rattle.cx_load.specs.Program.{IsLoaded, IsProgramPlace, program_owner, text_at}
use Rattle.cx_load.proofs.RelocateLemmas.{length-relocated}

-- a program ends with its range
pub place_ends : (storage : Storage) (size at : ℕ) → IsLeastPlace storage 65536 2097151 size (Some at) → at + size ≤ 2097152
unfolding IsLeastPlace CanPlace
place_ends storage size at place = omega (arith, place.0.2)

-- where there is a place, "none" is no answer
pub place_found : (storage : Storage) (size at : ℕ) → IsLeastPlace storage 65536 2097151 size (Some at) → IsLeastPlace storage 65536 2097151 size None → ⊥
unfolding IsLeastPlace
place_found storage size at place none = none at place.0

byte_of_fresh : (storage : Storage) (size at k : ℕ) (owner : Owner) → CanPlace storage 65536 2097151 size at → at + size ≤ 2097152 → k < size
    → byte_at (with_area storage (Some at) size owner) (address_after at k) ≡ Some (slice_index (replicate size 0) k)
byte_of_fresh storage size at k owner can ends inside =
    let here : address_after at k ≡ at + k = omega arith in
    let covered : covers (area_from at size owner) (address_after at k) ≡ true =
    rw here (covers_from (area_from at size owner) (at + k) (omega arith) (omega arith)) in
    let zero : slice_index (replicate size 0) k ≡ 0 = get_or-replicate size k 0 0 inside in
    byte_after_get storage 65536 2097151 size at owner (address_after at k) can ∙ rw (covered, zero) refl

fresh_present : (storage : Storage) (size at : ℕ) (owner : Owner) → CanPlace storage 65536 2097151 size at → at + size ≤ 2097152
    → is_some (span (with_area storage (Some at) size owner) at size) ≡ true
fresh_present storage size at owner can ends =
    ap is_some (span_from (with_area storage (Some at) size owner) at size (replicate size 0) (omega arith) (length-replicate size 0)
    (λ k inside. byte_of_fresh storage size at k owner can ends inside))

-- bytes written into a fresh area are there
pub fresh_holds : (storage : Storage) (size at : ℕ) (owner : Owner) (bytes : List ℕ) → IsLeastPlace storage 65536 2097151 size (Some at) → size ≤ 65536 → length bytes ≡ size
    → span (after_write (with_area storage (Some at) size owner) at bytes) at size ≡ Some bytes
unfolding IsLeastPlace
fresh_holds storage size at owner bytes place short same =
    let ends = place_ends storage size at place in
    let present = fresh_present storage size at owner place.0 ends in
    rw (sym same) (span_after_write (with_area storage (Some at) (length bytes) owner) at bytes (omega (arith, ends)) (omega (arith, same, short)) (rw same present))

-- a list put back whole over a longer or shorter one
pub whole_list : (xs ys : List ℕ) (n : ℕ) → n ≡ length xs → take n (xs ++ drop (length xs) ys) ≡ xs
whole_list xs ys n same = let most : n ≤ length xs = omega arith in take-append-le n xs (drop (length xs) ys) most ∙ take_all n xs (omega arith)

-- the text written into the area of its place is loaded
pub loaded_from : (before after : Storage) (image : Image) (at : ℕ) → IsFit image → IsProgramPlace before (length image.text) (Some at)
    → after ≡ after_write (with_area before (Some at) (length image.text) program_owner) at (text_at at image)
    → IsLoaded before image (record { at = at; len = length image.text; entry = at + image.entry; stg_len = image.stg_len }) after
loaded_from before after image at fit place wrote =
    let facts = facts_of_fit image fit in
    let size = length-relocated at image.relocs image.text facts.inside in
    let holds = fresh_holds before (length image.text) at program_owner (text_at at image) place facts.short size in
    record {
      place = place;
      stands = rw wrote holds;
      storage_after = wrote;
      size = refl;
      entry = refl;
      stg_len = refl;
    }

-- two outcomes of one load are equal
pub loaded_decides : (storage after later : Storage) (image : Image) (one other : Loaded)
    → IsLoaded storage image one after → IsLoaded storage image other later → (one ≡ other) × (after ≡ later)
loaded_decides storage after later image one other first second =
    let same : Some one.at ≡ Some other.at = place_decides storage 65536 2097151 (length image.text) (Some one.at) (Some other.at) first.place second.place in
    let at : one.at ≡ other.at = cc in
    let size : one.len ≡ other.len = cc (first.size, second.size) in
    let entry : one.entry ≡ other.entry = cc (first.entry, second.entry, at) in
    let stg_len : one.stg_len ≡ other.stg_len = cc (first.stg_len, second.stg_len) in
    let loaded : one ≡ other = λ i. record { at = at i; len = size i; entry = entry i; stg_len = stg_len i } in
    (loaded, cc (first.storage_after, second.storage_after, at))
