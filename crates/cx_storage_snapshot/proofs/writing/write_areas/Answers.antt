use Rattle.std.proofs.Common.{◌≡◌, ◌≤◌, ◌^◌, ◌∙◌, sym, ap, arith, length}
use Rattle.cx_storage.specs.Storage.{Held, end_of}
use Rattle.cx_storage.specs.declared.areas.Area.{Area}
use Rattle.cx_storage_snapshot.proofs.OverLemmas.{all_written, area_written, copy_bounds}
use Rattle.cx_storage_snapshot.proofs.writing.write_areas.Goals as goal

pub fill-requires-clause-size : goal.fill-requires-clause-size
fill-requires-clause-size g c =
    let bounds = copy_bounds c.args.copies.now c.loop-copy.copy-index c.copy-item.result c.requires.sound (omega arith) c.copy-item.is in
    let area : c.area.result ≡ c.copy-item.result.value.area = c.area.ensures ∙ ap (λ (h : Held). h.area) c.deref.ensures in
    ap length (c.bytes.ensures ∙ ap (λ (h : Held). h.bytes) c.deref-in-loop-copy.ensures) ∙ bounds.0 ∙ sym (ap (λ (a : Area). a.len) area)

pub fill-requires-clause-below : goal.fill-requires-clause-below
fill-requires-clause-below g c =
    let bounds = copy_bounds c.args.copies.now c.loop-copy.copy-index c.copy-item.result c.requires.sound (omega arith) c.copy-item.is in
    let area : c.area.result ≡ c.copy-item.result.value.area = c.area.ensures ∙ ap (λ (h : Held). h.area) c.deref.ensures in
    let below : end_of c.area.result ≤ 2 ^ 24 = rw area bounds.1 in
    below

pub loop-copy-preserved : goal.loop-copy-preserved
loop-copy-preserved g c =
    let area : c.area.result ≡ c.copy-item.result.value.area = c.area.ensures ∙ ap (λ (h : Held). h.area) c.deref.ensures in
    let bytes = c.bytes.ensures ∙ ap (λ (h : Held). h.bytes) c.deref-in-loop-copy.ensures in
    area_written (g.S.Store.storage c.args.store.now) (g.S.Store.storage c.loop-copy.store) (g.S.Store.storage c.fill.new.store) c.args.copies.now c.loop-copy.copy-index c.copy-item.result
    c.area.result c.bytes.result.now c.store_is_sound.ensures c.requires.sound c.requires.same (omega arith) c.copy-item.is area bytes c.loop-copy.invariant c.fill.ensures

pub returns : goal.returns
returns g c = all_written (g.S.Store.storage c.args.store.now) (g.S.Store.storage c.loop-copy.store) c.args.copies.now c.loop-copy.copy-index c.requires.same (omega arith) c.loop-copy.invariant
