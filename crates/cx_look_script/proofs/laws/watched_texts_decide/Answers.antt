use Rattle.cx_look_script.proofs.WatchLemmas.{watched_texts_decide as texts_decide}
use Rattle.cx_look_script.proofs.laws.watched_texts_decide.Goals as goal

pub returns : goal.returns
returns c = texts_decide c.writers_decide.ensures.changes
