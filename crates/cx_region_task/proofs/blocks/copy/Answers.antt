use Rattle.std.proofs.Common.{arith, ◌∙◌, ◌≡◌, length, take}
use Rattle.std.proofs.lemmas.List.{length-take-le}
use Rattle.cx_storage.specs.Storage.{Storage}
use Rattle.cx_region_task.proofs.BlockLemmas.{copied_further, copied_whole, none_written}
use Rattle.cx_region_task.proofs.blocks.copy.Goals as goal

pub loop-done-init : goal.loop-done-init
loop-done-init g c = (omega arith, none_written (g.S.Store.storage c.args.store.now) c.args.copying.to)

pub loop-done-preserved : goal.loop-done-preserved
loop-done-preserved g c =
    let s : Storage = g.S.Store.storage c.args.store.now in
    let it = c.args.copying in
    let n = c.min-n.result in
    let few = c.min-n.ensures in
    let size : length (take n c.loop-done.block) ≡ n = length-take-le n c.loop-done.block (omega (arith, few, c.min-n.array_long)) in
    let further =
    copied_further s it.from.place it.to it.from.len c.loop-done.done n (take n c.loop-done.block) c.requires.from c.requires.below c.requires.source c.requires.there c.requires.apart
    (omega (arith, c.loop-done.invariant.0, few, c.from-len.ensures))
    (omega (arith, c.loop-done-test.true, few, c.from-len.ensures)) in
    (omega (arith, c.loop-done.invariant.0, few), c.write.ensures.after ∙ rw (c.read.ensures.after, c.loop-done.invariant.1, c.address_after.ensures.value, size) further)

pub returns : goal.returns
returns g c =
    c.loop-done.invariant.1
    ∙ copied_whole (g.S.Store.storage c.args.store.now) c.args.copying.from.place c.args.copying.to c.args.copying.from.len c.loop-done.done
    (omega (arith, c.loop-done-test.false, c.from-len.ensures))
    c.requires.source
