use Rattle.std.proofs.Common.{◌≡◌, ◌∙◌, sym, ap, arith, refl, Bool, true, false, not, Option, None, Some, is_some}
use Rattle.std.specs.Prelude.{IsTrue, is_none}
use Rattle.cx_storage.specs.Storage.{Held}
use Rattle.cx_storage.specs.declared.areas.Area.{Area}
use Rattle.cx_storage_snapshot.proofs.CopyLemmas.{next_bounds}
use Rattle.cx_storage_snapshot.proofs.OverLemmas.{all_areas, area_missing, area_over, area_same, more_areas, no_areas}
use Rattle.cx_storage_snapshot.proofs.writing.has_areas.Goals as goal

pub loop-copy-init : goal.loop-copy-init
loop-copy-init g c = (omega arith, no_areas (g.S.Store.storage c.args.store.now))

pub overflow_add-from : goal.overflow_add-from
overflow_add-from g c =
    let bounds = next_bounds (g.S.Store.storage c.args.store.now) c.loop-copy.from c.in-Some.area c.store_is_sound.ensures (sym c.in-Some.ensures) in
    omega (arith, bounds.2)

pub loop-copy-preserved : goal.loop-copy-preserved
loop-copy-preserved g c =
    let s = g.S.Store.storage c.args.store.now in
    let bounds = next_bounds s c.loop-copy.from c.in-Some.area c.store_is_sound.ensures (sym c.in-Some.ensures) in
    let same : c.in-Some.area ≡ c.copy-item.result.value.area = sym (c.is_of.ensures.0 c.if-not-is_of.false) ∙ ap (λ (h : Held). h.area) c.deref.ensures in (
      bounds.2,
      more_areas s c.loop-copy.from c.loop-copy.copy-index c.in-Some.area c.args.copies.now c.copy-item.result c.store_is_sound.ensures (sym c.in-Some.ensures) (omega arith) c.copy-item.is same
          c.loop-copy.invariant.1,
    )

is_none_of : (o : Option Area) (b : Bool) (p : Option Area) → is_some o ≡ not b → o ≡ p → IsTrue b → IsTrue (is_none p)
is_none_of None b p e f t = rw (← f) refl
is_none_of (Some area) false p e f t = cc
is_none_of (Some area) true p e f t = cc

is_none_by : (o p : Option Area) (b : Bool) → is_some o ≡ not b → o ≡ p → IsTrue (is_none p) → IsTrue b
is_none_by None p true e f t = refl
is_none_by None p false e f t = cc
is_none_by (Some area) p true e f t = refl
is_none_by (Some area) None false e f t = cc
is_none_by (Some area) (Some other) false e f t = cc

pub returns-in_default : goal.returns-in_default
returns-in_default g c = (
  λ t. cc,
  λ same. absurd (area_missing (g.S.Store.storage c.args.store.now) c.loop-copy.from c.loop-copy.copy-index c.args.copies.now c.copy-item.result (omega arith) c.copy-item.is (sym c.in_default.ensures)
      c.loop-copy.invariant.1 same),
)

pub returns-then-not-is_of : goal.returns-then-not-is_of
returns-then-not-is_of g c = (
  λ t. cc,
  λ same.
      let s = g.S.Store.storage c.args.store.now in
      let there = area_same s c.loop-copy.from c.loop-copy.copy-index c.in-Some.area c.args.copies.now c.copy-item.result c.store_is_sound.ensures (omega arith) c.copy-item.is (sym c.in-Some.ensures)
      c.loop-copy.invariant.1 same in
      let is = c.is_of.ensures.1 (ap (λ (h : Held). h.area) c.deref.ensures ∙ there) in
      cc,
)

pub returns : goal.returns
returns g c = (
  λ none. all_areas (g.S.Store.storage c.args.store.now) c.loop-copy.from c.loop-copy.copy-index c.args.copies.now (omega arith) (is_none_of c.next_area-2.result c.is_none.result _ c.is_none.ensures c.next_area-2.ensures none) c.loop-copy.invariant.1,
  λ same. is_none_by c.next_area-2.result _ c.is_none.result c.is_none.ensures c.next_area-2.ensures
      (area_over (g.S.Store.storage c.args.store.now) c.loop-copy.from c.loop-copy.copy-index c.args.copies.now c.store_is_sound.ensures (omega arith) c.loop-copy.invariant.1 same),
)
