use Rattle.std.proofs.Common.{◌≡◌, ℕ}
use Rattle.cx_storage_pages.specs.Parts.Directory.{has_page}
use Rattle.cx_storage_pages.specs.Pages.{byte_in_pages}
use Rattle.cx_storage_pages.proofs.directory.sum_in.Given as goal

-- no byte has changed, and no page was made
abbrev pub invariant-loop-i : goal.invariant-loop-i
invariant-loop-i l = ((x : ℕ) → byte_in_pages l.pages.items x ≡ byte_in_pages l.fn.pages.items x) × ((i : ℕ) → has_page l.pages.items i ≡ has_page l.fn.pages.items i)
