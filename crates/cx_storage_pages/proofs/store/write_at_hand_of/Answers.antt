use Rattle.std.proofs.Common.{length, arith, inl, inr}
use Rattle.std.proofs.lemmas.Bool.{cases_Bool}
use Rattle.cx_storage_pages.proofs.ChangeLemmas.{same_shows}
use Rattle.cx_storage_pages.proofs.SpanLemmas.{span_there, write_shows}
use Rattle.cx_storage_pages.proofs.store.write_at_hand_of.Goals as goal

pub returns-clause-present : goal.returns-clause-present
returns-clause-present c = λ e.
    let fits = c.write_in.ensures.together e in
    span_there c.args.areas.now.items c.args.pages.now.items c.args.a (length c.args.bytes.now) c.requires.shown (omega (arith, fits, c.requires.address)) (c.write_in.ensures.present e)

pub returns-clause-after : goal.returns-clause-after
returns-clause-after c = λ e.
    let fits = c.write_in.ensures.together e in
    let there = span_there c.args.areas.now.items c.args.pages.now.items c.args.a (length c.args.bytes.now) c.requires.shown (omega (arith, fits, c.requires.address)) (c.write_in.ensures.present e) in
    (write_shows c.args.areas.now.items c.args.pages.now.items c.write_in.new.pages.items c.args.a c.args.bytes.now c.requires.shown (λ k h. (c.type_inv.bytes k).fits) c.requires.address (omega (arith, fits, c.requires.address)) there (c.write_in.ensures.after e)).is

pub returns-clause-same : goal.returns-clause-same
returns-clause-same c = λ e. (same_shows c.args.areas.now.items c.args.pages.now.items c.write_in.new.pages.items c.requires.shown (c.write_in.ensures.gap e)).is

pub returns-clause-shown : goal.returns-clause-shown
returns-clause-shown c = elim (cases_Bool c.write_in.result) [
  | inl e ↦
      let fits = c.write_in.ensures.together e in
      let there = span_there c.args.areas.now.items c.args.pages.now.items c.args.a (length c.args.bytes.now) c.requires.shown (omega (arith, fits, c.requires.address)) (c.write_in.ensures.present e) in
      (write_shows c.args.areas.now.items c.args.pages.now.items c.write_in.new.pages.items c.args.a c.args.bytes.now c.requires.shown (λ k h. (c.type_inv.bytes k).fits) c.requires.address (omega (arith, fits, c.requires.address)) there (c.write_in.ensures.after e)).shown
  | inr e ↦ (same_shows c.args.areas.now.items c.args.pages.now.items c.write_in.new.pages.items c.requires.shown (c.write_in.ensures.gap e)).shown
]
