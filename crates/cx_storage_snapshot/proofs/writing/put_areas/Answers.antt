use Rattle.std.proofs.Common.{◌∙◌, ◌+◌, ◌++◌, [], ◌∷◌, ap, sym, arith, take}
use Rattle.cx_storage.specs.Storage.{Held, IsSoundStorage}
use Rattle.cx_base.specs.Shared.{values}
use Rattle.cx_storage_snapshot.proofs.WriteLemmas.{sound_take, front_more, copy_aligned}
use Rattle.cx_storage_snapshot.proofs.writing.put_areas.Goals as goal

pub put_area-requires-clause-sound : goal.put_area-requires-clause-sound
put_area-requires-clause-sound g c =
    let copies = c.args.copies.now in
    let i = c.loop-copy.copy-index in
    let front = front_more copies i c.copy-item.result (omega arith) c.copy-item.is in
    let ok : IsSoundStorage _ = rw front at (sound_take (i + 1) (values copies) c.requires.sound) in
    rw (c.loop-copy.invariant, c.deref.ensures) ok

pub put_area-requires-clause-aligned : goal.put_area-requires-clause-aligned
put_area-requires-clause-aligned g c = rw c.deref.ensures (copy_aligned c.args.copies.now c.loop-copy.copy-index c.copy-item.result c.requires.aligned (omega arith) c.copy-item.is)

pub loop-copy-preserved : goal.loop-copy-preserved
loop-copy-preserved g c =
    let front = front_more c.args.copies.now c.loop-copy.copy-index c.copy-item.result (omega arith) c.copy-item.is in
    c.in_ok-put_area.ensures ∙ ap (λ s. s ++ c.deref.result.now ∷ []) c.loop-copy.invariant ∙ ap (λ (h : Held). take c.loop-copy.copy-index (values c.args.copies.now) ++ h ∷ []) c.deref.ensures ∙ sym front
