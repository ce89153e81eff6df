use Rattle.cx_base.proofs.PageLemmas.{blank_is_page}
use Rattle.cx_base.proofs.pages.Page.blank.Goals as goal

pub invariant_of-result : goal.invariant_of-result
invariant_of-result c = blank_is_page
