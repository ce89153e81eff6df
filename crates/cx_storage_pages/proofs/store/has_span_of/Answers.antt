use Rattle.std.proofs.Common.{◌≡◌, sym, ◌∙◌, arith, true, false}
use Rattle.std.proofs.lemmas.Bool.{false≢true}
use Rattle.cx_storage_pages.specs.Parts.Shown.{stored}
use Rattle.cx_storage_pages.proofs.SpanLemmas.{skip_there, skip_gap, no_span}
use Rattle.cx_storage_pages.proofs.store.has_span_of.Goals as goal

pub returns-then-not-has_in : goal.returns-then-not-has_in
returns-then-not-has_in c =
    let absent : c.has_in.result ≡ false = cc in
    sym (sym c.loop-left.invariant.1
    ∙ skip_gap c.args.areas.now.items c.args.pages.now.items c.loop-left.at c.loop-left.left c.min-step.result c.requires.shown c.loop-left.invariant.0 (omega arith) (omega arith)
    (λ all. false≢true (sym absent ∙ c.has_in.ensures.gap all)))

pub loop-left-preserved : goal.loop-left-preserved
loop-left-preserved c =
    let there : c.has_in.result ≡ true = cc in (
      c.address_after-at.ensures.below_2_24,
      rw c.address_after-at.ensures.value
          (skip_there c.args.areas.now.items c.args.pages.now.items c.loop-left.at c.loop-left.left c.min-step.result c.requires.shown c.loop-left.invariant.0 (omega arith) (omega arith) (c.has_in.ensures.all there)
          ∙ c.loop-left.invariant.1),
    )

pub returns : goal.returns
returns c =
    let none : c.loop-left.left ≡ 0 = omega arith in
    sym (sym c.loop-left.invariant.1 ∙ no_span (stored c.args.areas.now c.args.pages.now) c.loop-left.at c.loop-left.left none)
