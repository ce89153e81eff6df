-- How pages show storage: the bytes of each area read off its pages (this product's own).
use Rattle.std.specs.Prelude.{ℕ, ◌/◌, ◌%◌, Option, None, nat_lt, slice_get, slice_index, if◌then◌else◌, Some, Box, List, zero, suc, ◌+◌, [], ◌∷◌, map, unwrap_or}
use Rattle.std.specs.Global.{Global}
use Rattle.std.specs.Option.{option_and_then}
use Rattle.cx_storage_pages.specs.declared.frame.Frame.{Frame}
use Rattle.cx_storage_pages.specs.declared.page.Page.{Page}
use Rattle.cx_storage.specs.Storage.{Held, Storage}
use Rattle.cx_storage.specs.declared.areas.Area.{Area}

-- the byte at the place k of a frame, where it is among the first of its granule that are counted
unfoldable pub frame_byte : Frame → ℕ → Option ℕ
frame_byte frame k = if nat_lt (k % 16) (slice_index frame.counts (k / 16)) then slice_get frame.bytes k else None

-- the byte at the place k of a page's frame, where it has one
abbrev pub in_frame : Option (Box Frame Global) → ℕ → Option ℕ
in_frame None k = None
in_frame (Some frame) k = frame_byte frame.value k

-- the byte at the place k of a page, where it is present
unfoldable pub page_byte : Page → ℕ → Option ℕ
page_byte page k = in_frame page.frame k

-- the byte at the address x, where it is present
unfoldable pub byte_in_pages : List Page → ℕ → Option ℕ
byte_in_pages pages x = option_and_then (λ page. page_byte page (x % 4096)) (slice_get pages (x / 4096))

-- the n bytes from a on, zero where one is absent
abbrev pub cells : List Page → ℕ → ℕ → List ℕ
cells pages a zero = []
cells pages a (suc n) = unwrap_or (byte_in_pages pages a) 0 ∷ cells pages (a + 1) n

-- an area with its bytes
abbrev pub held_in : List Page → Area → Held
held_in pages area = record { area = area; bytes = cells pages area.start area.len }

-- the areas with their bytes
unfoldable pub storage_of : List Area → List Page → Storage
storage_of areas pages = map (held_in pages) areas
