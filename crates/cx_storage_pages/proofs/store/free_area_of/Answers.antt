use Rattle.std.proofs.Common.{◌≡◌, ◌∙◌, ap, is_some, None, refl, sym, arith, length}
use Rattle.std.proofs.lemmas.Option.{slice_get_read, slice_get_past}
use Rattle.cx_storage.specs.Storage.{area_at, starts_elsewhere}
use Rattle.cx_storage_pages.specs.Parts.Shown.{stored}
use Rattle.cx_storage_pages.proofs.TableLemmas.{area_here, area_elsewhere, area_past}
use Rattle.cx_storage_pages.proofs.ChangeLemmas.{area_fits, one_freed, none_freed, removed, free_shows}
use Rattle.cx_storage_pages.proofs.store.free_area_of.Goals as goal
use Rattle.cx_storage_pages.proofs.store.free_area_of.Goals.{Else-area-start, Else-i-len}

pub clear_in-requires-clause-granule : goal.clear_in-requires-clause-granule
clear_in-requires-clause-granule c =
    let fits = area_fits c.args.areas.now.items c.args.pages.now.items c.spot_of-i.result c.index-area.result.now c.requires (omega arith) c.index-area.ensures in
    let same : c.index-area.result.now.start ≡ c.args.start = omega arith in
    rw (← same) fits.0

pub clear_in-requires-clause-order : goal.clear_in-requires-clause-order
clear_in-requires-clause-order c =
    let fits = area_fits c.args.areas.now.items c.args.pages.now.items c.spot_of-i.result c.index-area.result.now c.requires (omega arith) c.index-area.ensures in
    omega (arith, fits.1)

pub clear_in-requires-clause-low : goal.clear_in-requires-clause-low
clear_in-requires-clause-low c =
    let fits = area_fits c.args.areas.now.items c.args.pages.now.items c.spot_of-i.result c.index-area.result.now c.requires (omega arith) c.index-area.ensures in
    omega (arith, fits.2)

pub returns-then-area-start-clause-found : goal.returns-then-area-start-clause-found
returns-then-area-start-clause-found c =
    let at = slice_get_read c.args.areas.now.items (length c.args.areas.now.items) c.spot_of-i.result c.index-area.result.now refl (omega arith) c.index-area.ensures in
    sym (ap is_some (area_here c.args.areas.now.items c.args.pages.now.items c.args.start c.spot_of-i.result c.index-area.result.now c.requires c.spot_of-i.ensures.value at (omega arith)))

pub returns-then-area-start-clause-after : goal.returns-then-area-start-clause-after
returns-then-area-start-clause-after c =
    let kept = c.remove.ensures.items
    ∙ removed c.args.areas.now.items c.args.pages.now.items c.spot_of-i.result c.args.start c.index-area.result.now c.requires (omega arith) c.index-area.ensures (omega arith) in
    rw kept (free_shows c.args.areas.now.items c.args.pages.now.items c.clear_in.new.pages.items (starts_elsewhere c.args.start) c.requires
    (one_freed c.args.areas.now.items c.args.pages.now.items c.clear_in.new.pages.items c.spot_of-i.result c.args.start c.index-area.result.now c.requires (omega arith) c.index-area.ensures (omega arith) c.clear_in.ensures)).is

pub returns-then-area-start-clause-shown : goal.returns-then-area-start-clause-shown
returns-then-area-start-clause-shown c =
    let kept = c.remove.ensures.items
    ∙ removed c.args.areas.now.items c.args.pages.now.items c.spot_of-i.result c.args.start c.index-area.result.now c.requires (omega arith) c.index-area.ensures (omega arith) in
    rw kept (free_shows c.args.areas.now.items c.args.pages.now.items c.clear_in.new.pages.items (starts_elsewhere c.args.start) c.requires
    (one_freed c.args.areas.now.items c.args.pages.now.items c.clear_in.new.pages.items c.spot_of-i.result c.args.start c.index-area.result.now c.requires (omega arith) c.index-area.ensures (omega arith) c.clear_in.ensures)).shown

elsewhere : (c : Else-area-start) → area_at (stored c.args.areas.now c.args.pages.now) c.args.start ≡ None
elsewhere c =
    let at = slice_get_read c.args.areas.now.items (length c.args.areas.now.items) c.spot_of-i.result c.index-area.result.now refl (omega arith) c.index-area.ensures in
    area_elsewhere c.args.areas.now.items c.args.pages.now.items c.args.start c.spot_of-i.result c.index-area.result.now c.requires c.spot_of-i.ensures.value at (λ e. omega arith)

past : (c : Else-i-len) → area_at (stored c.args.areas.now c.args.pages.now) c.args.start ≡ None
past c = area_past c.args.areas.now.items c.args.pages.now.items c.args.start c.spot_of-i.result c.requires c.spot_of-i.ensures.value (slice_get_past c.args.areas.now.items c.spot_of-i.result (omega arith))

pub returns-else-area-start-clause-found : goal.returns-else-area-start-clause-found
returns-else-area-start-clause-found c = sym (ap is_some (elsewhere (goal.at.returns-else-area-start-clause-found c).Else-area-start))

pub returns-else-area-start-clause-after : goal.returns-else-area-start-clause-after
returns-else-area-start-clause-after c = sym (none_freed (stored c.args.areas.now c.args.pages.now) c.args.start (elsewhere (goal.at.returns-else-area-start-clause-after c).Else-area-start))

pub returns-else-i-len-clause-found : goal.returns-else-i-len-clause-found
returns-else-i-len-clause-found c = sym (ap is_some (past (goal.at.returns-else-i-len-clause-found c).Else-i-len))

pub returns-else-i-len-clause-after : goal.returns-else-i-len-clause-after
returns-else-i-len-clause-after c = sym (none_freed (stored c.args.areas.now c.args.pages.now) c.args.start (past (goal.at.returns-else-i-len-clause-after c).Else-i-len))
