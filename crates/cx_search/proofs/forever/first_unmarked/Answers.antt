use Rattle.std.proofs.Common.{◌∙◌, ap, arith, inl, inr, sym}
use Rattle.cx_search.specs.Parts.Marks.{is_marked}
use Rattle.cx_search.proofs.SearchLemmas.{below_next}
use Rattle.cx_search.proofs.forever.first_unmarked.Goals as goal

pub loop-place-preserved : goal.loop-place-preserved
loop-place-preserved c = λ place l.
    elim (below_next place c.loop-place.place l) [
      | inl less ↦ c.loop-place.invariant place less
      | inr e ↦ ap (is_marked c.args.marks.now) e ∙ sym c.is_marked.ensures ∙ c.if-not-is_marked.false
    ]

pub returns-clause-none : goal.returns-clause-none
returns-clause-none c = λ place l. c.loop-place.invariant place (omega (arith, l, c.loop-place-test.false))
