use Rattle.std.proofs.Common.{◌≡◌, Some, None, arith, sym, ◌∙◌, Option, refl}
use Rattle.std.proofs.lemmas.List.{append-nil}
use Rattle.cx_storage.specs.declared.areas.Area.{Area}
use Rattle.cx_storage_snapshot.proofs.CopyLemmas.{areas_from_zero, areas_from_none, copied_more, next_bounds}
use Rattle.cx_storage_snapshot.proofs.snapshot.copies.Goals as goal

pub loop-area-init : goal.loop-area-init
loop-area-init g c = (omega arith, rw c.new-copies.ensures.items (areas_from_zero (g.S.Store.storage c.args.store.now)))

pub overflow_add-from : goal.overflow_add-from
overflow_add-from g c =
    let bounds = next_bounds (g.S.Store.storage c.args.store.now) c.loop-area.from c.in-Some.area c.store_is_sound.ensures (sym c.in-Some.ensures) in
    omega (arith, bounds.2)

pub loop-area-smaller : goal.loop-area-smaller
loop-area-smaller g c =
    let bounds = next_bounds (g.S.Store.storage c.args.store.now) c.loop-area.from c.in-Some.area c.store_is_sound.ensures (sym c.in-Some.ensures) in
    omega (arith, bounds.0, bounds.1, bounds.2)

pub loop-area-preserved : goal.loop-area-preserved
loop-area-preserved g c =
    let s = g.S.Store.storage c.args.store.now in
    let bounds = next_bounds s c.loop-area.from c.in-Some.area c.store_is_sound.ensures (sym c.in-Some.ensures) in (
      bounds.2,
      rw c.in_ok-push.ensures.items
          (copied_more s c.loop-area.from c.in-Some.area c.loop-area.copies.items c.in_ok-copy_of.field-0 c.store_is_sound.ensures (sym c.in-Some.ensures) c.in_ok-copy_of.ensures c.loop-area.invariant.1),
    )

none_left : (o : Option Area) → ((area : Area) → o ≡ Some area → ⊥) → o ≡ None
none_left None h = refl
none_left (Some area) h = absurd (h area refl)

pub returns : goal.returns
returns g c =
    let s = g.S.Store.storage c.args.store.now in
    let none = areas_from_none s c.loop-area.from (sym c.next_area.ensures ∙ none_left c.next_area.result c.in_default.not-Some) in
    let so = rw none at c.loop-area.invariant.1 in
    rw append-nil at so
