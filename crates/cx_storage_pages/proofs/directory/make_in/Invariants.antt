use Rattle.std.proofs.Common.{◌≡◌, ◌≤◌, ◌<◌, ◌-◌, ◌+◌, ℕ, true, vec_len}
use Rattle.cx_storage_pages.specs.Parts.Directory.{has_page}
use Rattle.cx_storage_pages.specs.Pages.{byte_in_pages}
use Rattle.cx_storage_pages.proofs.directory.make_in.Given as goal

-- no byte has changed, and no page was made
abbrev pub invariant-loop-pages : goal.invariant-loop-pages
invariant-loop-pages l =
    ((x : ℕ) → byte_in_pages l.pages.items x ≡ byte_in_pages l.initial.pages.items x) × ((i : ℕ) → has_page l.pages.items i ≡ has_page l.initial.pages.items i)

abbrev pub decreases-loop-pages : goal.decreases-loop-pages
decreases-loop-pages l = l.last + 1 - vec_len l.pages

-- the pages so far are made, none before them, and no byte has changed
abbrev pub invariant-loop-i : goal.invariant-loop-i
invariant-loop-i l =
    (l.last < vec_len l.pages) × ((x : ℕ) → byte_in_pages l.pages.items x ≡ byte_in_pages l.fn.pages.items x) × ((i : ℕ) → l.first ≤ i → i < l.i → has_page l.pages.items i ≡ true)
    × ((i : ℕ) → i < l.first → has_page l.pages.items i ≡ has_page l.fn.pages.items i)
