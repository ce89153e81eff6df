use Rattle.std.proofs.Common.{◌∙◌, arith}
use Rattle.cx_storage_pages.proofs.DirectoryLemmas.{there_set_same, has_set_same}
use Rattle.cx_storage_pages.proofs.directory.sum_in.Goals as goal
use Rattle.cx_storage_pages.proofs.directory.sum_in.Goals.{then-i-len, else-i-len}

pub loop-i-preserved : goal.loop-i-preserved
loop-i-preserved c = elim c.if-i-len.branch [
  | then-i-len w ↦ rw w.pages-is (
    λ x. there_set_same c.loop-i.pages.items c.loop-i.i w.index_mut-page.result.now w.sum_up.new.self (omega arith) w.index_mut-page.ensures.value w.sum_up.ensures.bytes x ∙ c.loop-i.invariant.0 x,
    λ j. has_set_same c.loop-i.pages.items c.loop-i.i w.index_mut-page.result.now w.sum_up.new.self (omega arith) w.index_mut-page.ensures.value w.sum_up.ensures.made j ∙ c.loop-i.invariant.1 j,
  )
  | else-i-len w ↦ rw w.pages-is c.loop-i.invariant
]
