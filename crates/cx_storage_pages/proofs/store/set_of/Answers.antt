use Rattle.std.proofs.Common.{◌∙◌, ap, is_some}
use Rattle.cx_storage_pages.proofs.ShownLemmas.{shown_byte}
use Rattle.cx_storage_pages.proofs.ChangeLemmas.{set_shows}
use Rattle.cx_storage_pages.proofs.store.set_of.Goals as goal

pub returns-clause-present : goal.returns-clause-present
returns-clause-present c = c.set_in.ensures.present ∙ ap is_some (shown_byte c.args.areas.now.items c.args.pages.now.items c.args.a c.requires)

pub returns-clause-after : goal.returns-clause-after
returns-clause-after c = (set_shows c.args.areas.now.items c.args.pages.now.items c.set_in.new.pages.items c.args.a c.args.value c.ranges.value.fits c.requires c.set_in.ensures.after).is

pub returns-clause-shown : goal.returns-clause-shown
returns-clause-shown c = (set_shows c.args.areas.now.items c.args.pages.now.items c.set_in.new.pages.items c.args.a c.args.value c.ranges.value.fits c.requires c.set_in.ensures.after).shown
