use Rattle.cx_look_ahead.proofs.WriteLemmas.{noted_next}
use Rattle.cx_look_ahead.proofs.writers.note_all.Goals as goal

pub loop-it-preserved : goal.loop-it-preserved
loop-it-preserved g c =
    noted_next _ _ _ _ _ _ c.loop-it.invariant (rw c.deref_mut-it-items.ensures.value at c.loop-it-test.true) c.in_ok-note.ensures
