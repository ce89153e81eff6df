use Rattle.std.proofs.Common.{◌≡◌, true, false, sym, ◌∙◌}
use Rattle.cx_storage.specs.Facts.Writes.{written_whole, written_none}
use Rattle.cx_storage_pages.specs.Parts.Shown.{stored}
use Rattle.cx_storage_pages.proofs.store.write_apart.Goals as goal

pub returns-then-not-has_span_of-clause-present : goal.returns-then-not-has_span_of-clause-present
returns-then-not-has_span_of-clause-present c =
    let absent : c.has_span_of.result ≡ false = cc in
    sym absent ∙ c.has_span_of.ensures

pub returns-then-not-has_span_of-clause-after : goal.returns-then-not-has_span_of-clause-after
returns-then-not-has_span_of-clause-after c =
    let absent : c.has_span_of.result ≡ false = cc in
    sym (written_none (stored c.args.areas.now c.args.pages.now) c.args.a c.args.bytes.now (sym c.has_span_of.ensures ∙ absent))

pub returns-clause-present : goal.returns-clause-present
returns-clause-present c =
    let there : c.has_span_of.result ≡ true = cc in
    sym there ∙ c.has_span_of.ensures

pub returns-clause-after : goal.returns-clause-after
returns-clause-after c =
    let there : c.has_span_of.result ≡ true = cc in
    c.write_each.ensures.after ∙ sym (written_whole (stored c.args.areas.now c.args.pages.now) c.args.a c.args.bytes.now (sym c.has_span_of.ensures ∙ there))
