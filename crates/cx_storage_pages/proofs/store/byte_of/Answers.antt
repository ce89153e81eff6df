use Rattle.std.proofs.Common.{◌∙◌}
use Rattle.cx_storage_pages.proofs.ShownLemmas.{shown_byte}
use Rattle.cx_storage_pages.proofs.store.byte_of.Goals as goal

pub returns : goal.returns
returns c = c.byte_in.ensures ∙ shown_byte c.args.areas.now.items c.args.pages.now.items c.args.a c.requires
