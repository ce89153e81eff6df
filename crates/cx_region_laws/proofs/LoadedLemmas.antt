-- A checked image is loaded wherever there is a place for it.
use Rattle.std.proofs.Common.{◌≡◌, ℕ, ◌+◌, ◌<◌, ◌≤◌, true, Some, List, length, replicate, IsTrue, refl, sym, ◌∙◌, ap, arith}
use Rattle.std.specs.Prelude.{is_some, slice_index}
use Rattle.std.proofs.lemmas.List.{get_or-replicate, length-replicate}
use Rattle.cx_storage.specs.declared.areas.Owner.{Owner}
use Rattle.cx_storage.specs.Storage.{Storage, area_from, byte_at, covers, span, with_area, after_write}
use Rattle.cx_storage.specs.Address.{address_after}
use Rattle.cx_storage.specs.Facts.Areas.{byte_after_get}
use Rattle.cx_storage.specs.Facts.Sound.{covers_from}
use Rattle.cx_storage.specs.Facts.Spans.{span_from}
use Rattle.cx_storage.specs.Facts.Writes.{span_after_write}
use Rattle.cx_storage.specs.Place.{CanPlace, IsLeastPlace}
use Rattle.cx_code.specs.declared.image.Image.{Image}
use Rattle.cx_load.specs.declared.program.Loaded.{Loaded}
use Rattle.cx_load.specs.Fault.{IsFit, are_inside}
use Rattle.cx_load.specs.Facts.Faults.{facts_of_fit}
use Rattle.cx_load.specs.Program.{IsLoaded, IsProgramPlace, first_of_programs, last_of_programs, program_owner, text_at}
use Rattle.cx_load.specs.Relocation.{relocated_text}

abbrev pub ImagesAreLoaded : Type 0
ImagesAreLoaded = (storage : Storage) (image : Image) (at : ℕ) → IsFit image → IsProgramPlace storage (length image.text) (Some at)
    → (loaded : Loaded) × (after : Storage) × IsLoaded storage image loaded after

-- loading keeps the text's length
abbrev KeepsLength : Type 0
KeepsLength = (at : ℕ) (relocs text : List ℕ) → IsTrue (are_inside (length text) relocs) → length (relocated_text at relocs text) ≡ length text

place_ends : (storage : Storage) (size at : ℕ) → CanPlace storage first_of_programs last_of_programs size at → at + size ≤ 2097152
unfolding CanPlace
place_ends storage size at can = omega (arith, can.2)

byte_of_fresh : (storage : Storage) (size at k : ℕ) (owner : Owner) → CanPlace storage first_of_programs last_of_programs size at → at + size ≤ 2097152 → k < size
    → byte_at (with_area storage (Some at) size owner) (address_after at k) ≡ Some (slice_index (replicate size 0) k)
byte_of_fresh storage size at k owner can ends inside =
    let here : address_after at k ≡ at + k = omega arith in
    let covered : covers (area_from at size owner) (address_after at k) ≡ true =
    rw here (covers_from (area_from at size owner) (at + k) (omega arith) (omega arith)) in
    let zero : slice_index (replicate size 0) k ≡ 0 = get_or-replicate size k 0 0 inside in
    byte_after_get storage first_of_programs last_of_programs size at owner (address_after at k) can ∙ rw (covered, zero) refl

fresh_present : (storage : Storage) (size at : ℕ) (owner : Owner) → CanPlace storage first_of_programs last_of_programs size at → at + size ≤ 2097152
    → is_some (span (with_area storage (Some at) size owner) at size) ≡ true
fresh_present storage size at owner can ends =
    ap is_some (span_from (with_area storage (Some at) size owner) at size (replicate size 0) (omega arith) (length-replicate size 0)
    (λ k inside. byte_of_fresh storage size at k owner can ends inside))

-- bytes written into a fresh area are there
fresh_holds : (storage : Storage) (size at : ℕ) (owner : Owner) (bytes : List ℕ) → CanPlace storage first_of_programs last_of_programs size at → size ≤ 65536
    → length bytes ≡ size → span (after_write (with_area storage (Some at) size owner) at bytes) at size ≡ Some bytes
fresh_holds storage size at owner bytes can short same =
    let ends = place_ends storage size at can in
    let present = fresh_present storage size at owner can ends in
    rw (sym same) (span_after_write (with_area storage (Some at) (length bytes) owner) at bytes (omega (arith, ends)) (omega (arith, same, short)) (rw same present))

pub images_are_loaded : KeepsLength → ImagesAreLoaded
unfolding IsLeastPlace
images_are_loaded keeps storage image at fit place =
    let after = after_write (with_area storage (Some at) (length image.text) program_owner) at (text_at at image) in
    let facts = facts_of_fit image fit in
    let size = keeps at image.relocs image.text facts.inside in (
      record { at = at; len = length image.text; entry = at + image.entry; stg_len = image.stg_len },
      after,
      record {
        place = place;
        stands = fresh_holds storage (length image.text) at program_owner (text_at at image) place.0 facts.short size;
        storage_after = refl;
        size = refl;
        entry = refl;
        stg_len = refl;
      },
    )
