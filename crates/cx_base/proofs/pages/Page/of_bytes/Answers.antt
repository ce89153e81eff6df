use Rattle.std.proofs.Common.{subst, sym}
use Rattle.cx_base.specs.Pages.{IsPage}
use Rattle.cx_base.proofs.PageLemmas.{shown_is_page}
use Rattle.cx_base.proofs.pages.Page.of_bytes.Goals as goal

pub invariant_of-result : goal.invariant_of-result
invariant_of-result c = subst IsPage (sym c.show_lines.ensures) (shown_is_page c.args.lines.now c.requires)
