use Rattle.std.proofs.Common.{◌∙◌}
use Rattle.cx_region_task.specs.Turn.{most_steps}
use Rattle.cx_look_ahead.proofs.WriteLemmas.{all_first, kept_seen, writers_seen}
use Rattle.cx_look_ahead.proofs.writers.last_writers.Goals as goal

pub run_watched-requires : goal.run_watched-requires
run_watched-requires g c = record {
  of = all_first _ _ _ (c.with_seen-ranges.ensures ∙ rw c.store-first.ensures at c.in_ok-seen.ensures);
}

pub returns-clause-writers : goal.returns-clause-writers
returns-clause-writers g c =
    rw c.into_seen.ensures
    (writers_seen c.steps_decide.ensures most_steps _ _ _ _ (rw c.store-first.ensures at c.store_is_sound.ensures)
    (c.with_seen-ranges.ensures ∙ rw c.store-first.ensures at c.in_ok-seen.ensures) c.in_ok-run_watched.ensures.watched)

pub returns-clause-kept : goal.returns-clause-kept
returns-clause-kept g c =
    rw c.into_seen.ensures
    (kept_seen most_steps _ _ _ _ (c.with_seen-ranges.ensures ∙ rw c.store-first.ensures at c.in_ok-seen.ensures)
    c.in_ok-run_watched.ensures.watched)
