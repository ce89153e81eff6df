use Rattle.std.proofs.Common.{length, sym}
use Rattle.cx_storage.specs.Facts.Spans.{span_length}
use Rattle.cx_storage_pages.specs.Parts.Shown.{stored}
use Rattle.cx_storage_pages.proofs.store.read_of.Goals as goal

pub copy_from_slice-requires : goal.copy_from_slice-requires
copy_from_slice-requires c = sym (span_length (stored c.args.areas.now c.args.pages.now) c.args.a (length c.args.buffer.now) c.in-Some.part.now c.in-Some.ensures.bytes)
