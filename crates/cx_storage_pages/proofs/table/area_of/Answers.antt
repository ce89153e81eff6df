use Rattle.std.proofs.Common.{sym, arith, refl, length}
use Rattle.std.proofs.lemmas.Option.{slice_get_read, slice_get_past}
use Rattle.cx_storage_pages.proofs.TableLemmas.{area_here, area_elsewhere, area_past}
use Rattle.cx_storage_pages.proofs.table.area_of.Goals as goal

pub returns-then-area-start : goal.returns-then-area-start
returns-then-area-start c =
    let at = slice_get_read c.args.areas.now.items (length c.args.areas.now.items) c.spot_of-i.result c.index-area.result.now refl (omega arith) c.index-area.ensures in
    sym (area_here c.args.areas.now.items c.args.pages.now.items c.args.start c.spot_of-i.result c.index-area.result.now c.requires c.spot_of-i.ensures.value at (omega arith))

pub returns-else-area-start : goal.returns-else-area-start
returns-else-area-start c =
    let at = slice_get_read c.args.areas.now.items (length c.args.areas.now.items) c.spot_of-i.result c.index-area.result.now refl (omega arith) c.index-area.ensures in
    sym (area_elsewhere c.args.areas.now.items c.args.pages.now.items c.args.start c.spot_of-i.result c.index-area.result.now c.requires c.spot_of-i.ensures.value at (λ e. omega arith))

pub returns-else-i-len : goal.returns-else-i-len
returns-else-i-len c =
    sym (area_past c.args.areas.now.items c.args.pages.now.items c.args.start c.spot_of-i.result c.requires c.spot_of-i.ensures.value (slice_get_past c.args.areas.now.items c.spot_of-i.result (omega arith)))
