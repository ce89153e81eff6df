use Rattle.std.proofs.Common.{◌≡◌, ◌^◌, ◌<◌, drop}
use Rattle.cx_storage.specs.Storage.{with_bytes}
use Rattle.cx_storage_pages.specs.Parts.Shown.{stored, IsShown}
use Rattle.cx_storage_pages.proofs.store.write_each.Given as goal

-- what is written so far, and then the rest, is the whole
abbrev pub invariant-written : goal.invariant-written
invariant-written l =
    (l.at < 2 ^ 24) × IsShown l.areas.items l.pages.items
    × (with_bytes (stored l.areas l.pages) l.at (drop l.value-index l.bytes) ≡ with_bytes (stored l.areas l.initial.pages) l.a l.bytes)
