-- The pages of a directory.
use Rattle.std.specs.Prelude.{ℕ, Bool, false, List, slice_get}
use Rattle.std.specs.Option.{option_map_or}
use Rattle.cx_storage_pages.specs.declared.page.Page.{Page}
use Rattle.cx_storage_pages.specs.Parts.Page.{is_made}

-- whether the i-th page was made
unfoldable pub has_page : List Page → ℕ → Bool
has_page pages i = option_map_or is_made (slice_get pages i) false
