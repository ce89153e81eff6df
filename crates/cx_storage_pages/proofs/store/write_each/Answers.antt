use Rattle.std.proofs.Common.{refl, sym, ◌∙◌, arith}
use Rattle.cx_storage_pages.specs.Parts.Shown.{stored}
use Rattle.cx_storage.specs.Facts.Writes.{with_bytes_more, with_bytes_all}
use Rattle.cx_storage_pages.proofs.store.write_each.Goals as goal

pub written-preserved : goal.written-preserved
written-preserved c = (
  c.next_address-at.ensures.below_2_24,
  c.set_of.ensures.shown,
  rw (c.set_of.ensures.after, c.next_address-at.ensures.value)
      (with_bytes_more (stored c.args.areas.now c.written.pages) c.written.at c.written.value-index c.args.bytes.now _ (omega arith) refl ∙ c.written.invariant.2),
)

pub returns-clause-after : goal.returns-clause-after
returns-clause-after c =
    sym (with_bytes_all (stored c.args.areas.now c.written.pages) c.written.at c.written.value-index c.args.bytes.now (omega arith)) ∙ c.written.invariant.2
