-- Whether a page was made.
use Rattle.std.specs.Prelude.{Bool, is_some}
use Rattle.cx_storage_pages.specs.declared.page.Page.{Page}

-- whether the page was made
abbrev pub is_made : Page → Bool
is_made page = is_some page.frame
