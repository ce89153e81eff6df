use Rattle.std.proofs.Common.{arith, ◌-◌}
use Rattle.cx_storage_snapshot.proofs.CopyLemmas.{no_span, span_piece}
use Rattle.cx_storage_snapshot.proofs.reading.bytes_of.Goals as goal

pub loop-at-init : goal.loop-at-init
loop-at-init g c =
    let area = c.args.area in
    (omega arith, omega arith, rw c.in_ok-bytes.ensures.items (no_span (g.S.Store.storage c.args.store.now) area.start (area.start - area.start) (omega arith)))

pub loop-at-preserved : goal.loop-at-preserved
loop-at-preserved g c =
    let s = g.S.Store.storage c.args.store.now in
    let area = c.args.area in
    let here = c.area_is_present.ensures s area.start area c.store_is_sound.ensures c.requires.there in
    let below = here.below in
    let so = c.loop-at.invariant in (
      omega (arith, so.0),
      c.part_at-part.ensures.within,
      rw c.in_ok-extend_from_slice.ensures.items (span_piece s area.start c.loop-at.at c.loop-at.bytes.items c.part_at-part.result.now so.0 (omega (arith, below)) so.2 c.part_at-part.ensures.bytes),
    )
