use Rattle.std.proofs.Common.{sym, arith, refl, length, ◌∙◌}
use Rattle.std.proofs.lemmas.Option.{slice_get_read, slice_get_past}
use Rattle.cx_storage_pages.proofs.TableLemmas.{next_at}
use Rattle.cx_storage_pages.proofs.table.next_of.Goals as goal

pub returns-then-i-len : goal.returns-then-i-len
returns-then-i-len c =
    let at = slice_get_read c.args.areas.now.items (length c.args.areas.now.items) c.spot_of-i.result c.index.result.now refl (omega arith) c.index.ensures in
    sym (next_at c.args.areas.now.items c.args.pages.now.items c.args.from c.spot_of-i.result c.spot_of-i.ensures.value ∙ at)

pub returns-else-i-len : goal.returns-else-i-len
returns-else-i-len c =
    sym (next_at c.args.areas.now.items c.args.pages.now.items c.args.from c.spot_of-i.result c.spot_of-i.ensures.value ∙ slice_get_past c.args.areas.now.items c.spot_of-i.result (omega arith))
