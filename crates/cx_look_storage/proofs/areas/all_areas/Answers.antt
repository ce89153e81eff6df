use Rattle.std.proofs.Common.{arith, sym, ◌∙◌}
use Rattle.cx_look_storage.proofs.AreaLemmas.{all_reported, next_start, none_before, one_more}
use Rattle.cx_look_storage.proofs.areas.all_areas.Goals as goal

pub loop-area-init : goal.loop-area-init
loop-area-init g c = rw c.new-areas.ensures.items (none_before (g.S.Store.storage c.args.store.now))

pub overflow_add-from : goal.overflow_add-from
overflow_add-from g c =
    let start = next_start (g.S.Store.storage c.args.store.now) c.loop-area.from c.in-Some.area c.store_is_sound.ensures (sym c.in-Some.ensures) in
    omega arith

pub loop-area-smaller : goal.loop-area-smaller
loop-area-smaller g c =
    let start = next_start (g.S.Store.storage c.args.store.now) c.loop-area.from c.in-Some.area c.store_is_sound.ensures (sym c.in-Some.ensures) in
    omega arith

pub loop-area-preserved : goal.loop-area-preserved
loop-area-preserved g c =
    one_more (g.S.Store.storage c.args.store.now) c.loop-area.from c.in-Some.area _ _ _ c.store_is_sound.ensures (sym c.in-Some.ensures)
    c.in_ok-push.ensures.items c.loop-area.invariant

pub returns : goal.returns
returns g c = all_reported (g.S.Store.storage c.args.store.now) c.loop-area.from _ _ (sym c.next_area.ensures ∙ c.in_default.is) c.loop-area.invariant
