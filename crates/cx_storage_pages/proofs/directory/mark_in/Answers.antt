use Rattle.std.proofs.Common.{◌∙◌, ◌⊎◌, ◌≡◌, ◌<◌, ◌/◌, true, inl, inr, sym, arith, length}
use Rattle.std.proofs.lemmas.Bool.{false≢true}
use Rattle.cx_storage_pages.specs.Parts.Page.{is_made}
use Rattle.cx_storage_pages.proofs.DirectoryLemmas.{page_marked, past_marked, has_set_same, made_at, has_past}
use Rattle.cx_storage_pages.proofs.directory.mark_in.Goals as goal

pub returns-then-i-len-clause-set : goal.returns-then-i-len-clause-set
returns-then-i-len-clause-set c = λ holds.
    let within : c.args.g / 256 < length c.args.pages.now.items = omega arith in
    let page = c.index_mut-page.ensures.value in
    let here : (is_made c.index_mut-page.result.now ≡ true) ⊎ (c.saturating_sub.result ≡ 0) = elim holds [
      | inl made ↦ inl (sym (made_at c.args.pages.now.items _ c.index_mut-page.result.now within page) ∙ made)
      | inr none ↦ inr (omega (arith, none))
    ] in
    page_marked c.args.pages.now.items c.args.g c.args.end c.args.to c.saturating_sub.result c.index_mut-page.result.now c.mark.new.self c.requires.order c.requires.together within page (omega arith) (c.mark.ensures.set here)

pub returns-then-i-len-clause-pages : goal.returns-then-i-len-clause-pages
returns-then-i-len-clause-pages c = has_set_same c.args.pages.now.items _ c.index_mut-page.result.now c.mark.new.self (omega arith) c.index_mut-page.ensures.value c.mark.ensures.same

pub returns-else-i-len-clause-set : goal.returns-else-i-len-clause-set
returns-else-i-len-clause-set c = λ holds. elim holds [
  | inl made ↦ absurd (false≢true (sym (has_past c.args.pages.now.items (c.args.g / 256) (omega arith)) ∙ made))
  | inr none ↦ past_marked c.args.pages.now.items c.args.g c.args.end c.args.to c.requires.order c.requires.together (omega arith) none
]
