-- A copy's area, given back.
use Rattle.std.proofs.Common.{◌≡◌, ◌<◌, ◌≤◌, ◌^◌, ℕ, List, length, Option, Some, None, is_some, refl}
use Rattle.std.specs.Prelude.{MatchOption, IsTrue, ⊤}
use Rattle.cx_storage.specs.Storage.{Storage, IsSoundStorage}
use Rattle.cx_storage.specs.Facts.Spans.{span_length}
use Rattle.cx_region_state.specs.declared.inputs.StorageSpan.{StorageSpan}
use Rattle.cx_region_state.specs.Inputs.{piece_bytes}
use Rattle.cx_region_state.specs.declared.verdict.Copying.{Copying}
use Rattle.cx_region_state.specs.Areas.{bytes_in, system_owner, with_copy_area}
use Rattle.cx_region_state.specs.Facts.Areas.{given_back, place_below}
use Rattle.cx_region_state.specs.Parts.Fits.{FitsCopy, IsThere}
use Rattle.cx_region_task.specs.Parts.Making.{without_copy}

pub copy_below : (s : Storage) (copying : Option Copying) → FitsCopy copying s → MatchOption copying ⊤ (λ it. it.to < 2 ^ 24)
copy_below s None fits = tt
copy_below s (Some copying) fits = place_below s copying.from.len copying.to fits.some fits.place

pub copy_given_back : (s : Storage) (slot : ℕ) (copying : Option Copying) → IsSoundStorage s → FitsCopy copying s
    → without_copy copying (with_copy_area s slot copying) ≡ s
unfolding with_copy_area
copy_given_back s slot None ok fits = refl
copy_given_back s slot (Some copying) ok fits = given_back s copying.from.len copying.to (system_owner slot) ok fits.some fits.place

-- a piece that is there has no more bytes than a halfword can measure
pub piece_few : (s : Storage) (piece : StorageSpan) → IsThere s piece → length (bytes_in s piece) ≤ 32767
piece_few s piece there = go (piece_bytes s piece) refl there.bytes
  where
    go : (read : Option (List ℕ)) → piece_bytes s piece ≡ read → IsTrue (is_some read) → length (bytes_in s piece) ≤ 32767
    go None e some = absurd (cc)
    go (Some read) e some = rw e (rw (span_length s piece.place piece.len read e) there.few)
