use Rattle.std.proofs.Common.{◌∙◌, ap, length, arith}
use Rattle.cx_storage_snapshot.proofs.WriteLemmas.{last_bounds, area_put}
use Rattle.cx_storage_snapshot.proofs.writing.put_area.Goals as goal

pub overflow_add-area : goal.overflow_add-area
overflow_add-area g c =
    let bounds = last_bounds (g.S.Store.storage c.args.store.now) c.args.copy.now c.area-area.result c.requires.sound c.area-area.ensures in omega (arith, bounds.1)

pub overflow_sub-area : goal.overflow_sub-area
overflow_sub-area g c =
    let bounds = last_bounds (g.S.Store.storage c.args.store.now) c.args.copy.now c.area-area.result c.requires.sound c.area-area.ensures in omega (arith, bounds.0)

pub get_area-requires-clause-last : goal.get_area-requires-clause-last
get_area-requires-clause-last g c =
    let bounds = last_bounds (g.S.Store.storage c.args.store.now) c.args.copy.now c.area-area.result c.requires.sound c.area-area.ensures in omega (arith, bounds.0, bounds.1)

pub get_area-requires-clause-len : goal.get_area-requires-clause-len
get_area-requires-clause-len g c = (last_bounds (g.S.Store.storage c.args.store.now) c.args.copy.now c.area-area.result c.requires.sound c.area-area.ensures).0

pub fill-requires-clause-size : goal.fill-requires-clause-size
fill-requires-clause-size g c =
    ap length c.bytes.ensures ∙ (last_bounds (g.S.Store.storage c.args.store.now) c.args.copy.now c.area-area.result c.requires.sound c.area-area.ensures).2

pub fill-requires-clause-below : goal.fill-requires-clause-below
fill-requires-clause-below g c = (last_bounds (g.S.Store.storage c.args.store.now) c.args.copy.now c.area-area.result c.requires.sound c.area-area.ensures).1

pub returns : goal.returns
returns g c =
    area_put (g.S.Store.storage c.args.store.now) (g.S.Store.storage c.get_area.new.self) (g.S.Store.storage c.fill.new.store) c.args.copy.now c.area-area.result c.bytes.result.now c.in_ok-get_area.field-0 c.requires.sound c.area-area.ensures c.bytes.ensures
    c.requires.aligned c.in_ok-get_area.ensures.placed c.in_ok-get_area.ensures.after c.fill.ensures
