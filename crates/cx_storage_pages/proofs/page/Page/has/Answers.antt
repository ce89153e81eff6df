use Rattle.cx_storage_pages.specs.Pages.{page_byte}
use Rattle.cx_storage_pages.proofs.page.Page.has.Goals as goal

pub returns-in-Some-clause-gap : goal.returns-in-Some-clause-gap
unfolding page_byte
returns-in-Some-clause-gap c = λ all. c.has.ensures.gap (λ k low high. let here = rw c.in-Some.is at (all k low high) in rw c.deref.ensures here)
