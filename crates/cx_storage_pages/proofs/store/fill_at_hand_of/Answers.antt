use Rattle.std.proofs.Common.{arith, inl, inr}
use Rattle.std.proofs.lemmas.Bool.{cases_Bool}
use Rattle.cx_storage_pages.proofs.ChangeLemmas.{same_shows}
use Rattle.cx_storage_pages.proofs.SpanLemmas.{span_there, fill_shows}
use Rattle.cx_storage_pages.proofs.store.fill_at_hand_of.Goals as goal

pub returns-clause-present : goal.returns-clause-present
returns-clause-present c = λ e.
    let fits = c.fill_in.ensures.together e in
    span_there c.args.areas.now.items c.args.pages.now.items c.args.a (c.args.n) c.requires.shown (omega (arith, fits, c.requires.address)) (c.fill_in.ensures.present e)

pub returns-clause-after : goal.returns-clause-after
returns-clause-after c = λ e.
    let fits = c.fill_in.ensures.together e in
    let there = span_there c.args.areas.now.items c.args.pages.now.items c.args.a (c.args.n) c.requires.shown (omega (arith, fits, c.requires.address)) (c.fill_in.ensures.present e) in
    (fill_shows c.args.areas.now.items c.args.pages.now.items c.fill_in.new.pages.items c.args.a c.args.n c.args.value c.requires.shown (omega arith) c.requires.address (omega (arith, fits, c.requires.address)) there (c.fill_in.ensures.after e)).is

pub returns-clause-same : goal.returns-clause-same
returns-clause-same c = λ e. (same_shows c.args.areas.now.items c.args.pages.now.items c.fill_in.new.pages.items c.requires.shown (c.fill_in.ensures.gap e)).is

pub returns-clause-shown : goal.returns-clause-shown
returns-clause-shown c = elim (cases_Bool c.fill_in.result) [
  | inl e ↦
      let fits = c.fill_in.ensures.together e in
      let there = span_there c.args.areas.now.items c.args.pages.now.items c.args.a (c.args.n) c.requires.shown (omega (arith, fits, c.requires.address)) (c.fill_in.ensures.present e) in
      (fill_shows c.args.areas.now.items c.args.pages.now.items c.fill_in.new.pages.items c.args.a c.args.n c.args.value c.requires.shown (omega arith) c.requires.address (omega (arith, fits, c.requires.address)) there (c.fill_in.ensures.after e)).shown
  | inr e ↦ (same_shows c.args.areas.now.items c.args.pages.now.items c.fill_in.new.pages.items c.requires.shown (c.fill_in.ensures.gap e)).shown
]
