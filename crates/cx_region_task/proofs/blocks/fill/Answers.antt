use Rattle.std.proofs.Common.{arith, ap, ◌∙◌, ◌+◌, List, ℕ, replicate}
use Rattle.std.proofs.lemmas.List.{take-replicate}
use Rattle.cx_storage.specs.Storage.{Storage, after_write}
use Rattle.cx_region_task.proofs.BlockLemmas.{filled_further, none_written}
use Rattle.cx_region_task.proofs.blocks.fill.Goals as goal

pub loop-done-init : goal.loop-done-init
loop-done-init g c = (omega arith, none_written (g.S.Store.storage c.args.store.now) c.args.place)

pub loop-done-preserved : goal.loop-done-preserved
loop-done-preserved g c =
    let s : Storage = g.S.Store.storage c.args.store.now in
    let first = c.loop-done.invariant.0 in
    let here = c.args.place + c.loop-done.done in (
      omega (arith, first, c.min-n.ensures),
      c.write.ensures.after
          ∙ ap (λ (bytes : List ℕ). after_write (g.S.Store.storage c.loop-done.store) here bytes) (take-replicate c.min-n.result 1024 c.args.byte (omega (arith, c.min-n.ensures)))
          ∙ ap (λ (t : Storage). after_write t here (replicate c.min-n.result c.args.byte)) c.loop-done.invariant.1
          ∙ filled_further s c.args.place c.args.len c.loop-done.done c.min-n.result c.args.byte c.requires.below c.requires.there (omega (arith, first, c.min-n.ensures)) (omega (arith, c.loop-done-test.true, c.min-n.ensures)),
    )
