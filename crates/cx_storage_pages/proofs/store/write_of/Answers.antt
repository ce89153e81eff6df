use Rattle.std.proofs.Common.{◌≡◌, is_some, true, length, sym, arith}
use Rattle.cx_storage.specs.Storage.{span, after_write}
use Rattle.cx_storage_pages.specs.Parts.Shown.{stored}
use Rattle.cx_storage_pages.proofs.ShownLemmas.{Shows}
use Rattle.cx_storage_pages.proofs.ChangeLemmas.{same_shows}
use Rattle.cx_storage_pages.proofs.SpanLemmas.{span_there, write_shows}
use Rattle.cx_storage_pages.proofs.store.write_of.Goals as goal
use Rattle.cx_storage_pages.proofs.store.write_of.Goals.{Then-write_in, Else-write_in}

-- the span written at once was there
there_whole : (c : Then-write_in) → is_some (span (stored c.args.areas.now c.args.pages.now) c.args.a (length c.args.bytes.now)) ≡ true
there_whole c =
    let fits = c.write_in.ensures.together c.if-write_in.true in
    span_there c.args.areas.now.items c.args.pages.now.items c.args.a (length c.args.bytes.now) c.requires.shown (omega (arith, fits, c.requires.address)) (c.write_in.ensures.present c.if-write_in.true)

pub returns-then-write_in-clause-present : goal.returns-then-write_in-clause-present
returns-then-write_in-clause-present c = sym (there_whole (goal.at.returns-then-write_in-clause-present c).Then-write_in)

whole : (c : Then-write_in) → Shows (after_write (stored c.args.areas.now c.args.pages.now) c.args.a c.args.bytes.now) c.args.areas.now.items c.write_in.new.pages.items
whole c =
    let fits = c.write_in.ensures.together c.if-write_in.true in
    write_shows c.args.areas.now.items c.args.pages.now.items c.write_in.new.pages.items c.args.a c.args.bytes.now c.requires.shown (λ k h. (c.type_inv.bytes k).fits) c.requires.address (omega (arith, fits, c.requires.address))
    (there_whole c) (c.write_in.ensures.after c.if-write_in.true)

pub returns-then-write_in-clause-after : goal.returns-then-write_in-clause-after
returns-then-write_in-clause-after c = (whole (goal.at.returns-then-write_in-clause-after c).Then-write_in).is

pub returns-then-write_in-clause-shown : goal.returns-then-write_in-clause-shown
returns-then-write_in-clause-shown c = (whole (goal.at.returns-then-write_in-clause-shown c).Then-write_in).shown

-- where it wasn't written at once, nothing has changed
still : (c : Else-write_in) → Shows (stored c.args.areas.now c.args.pages.now) c.args.areas.now.items c.write_in.new.pages.items
still c = same_shows c.args.areas.now.items c.args.pages.now.items c.write_in.new.pages.items c.requires.shown (c.write_in.ensures.gap c.if-write_in.false)

pub write_apart-requires-clause-shown : goal.write_apart-requires-clause-shown
write_apart-requires-clause-shown c = (still (goal.at.write_apart-requires-clause-shown c).Else-write_in).shown

pub returns-clause-present : goal.returns-clause-present
returns-clause-present c = let is = (still (goal.at.returns-clause-present c).Else-write_in).is in rw is at c.write_apart.ensures.present

pub returns-clause-after : goal.returns-clause-after
returns-clause-after c = let is = (still (goal.at.returns-clause-after c).Else-write_in).is in rw is at c.write_apart.ensures.after
