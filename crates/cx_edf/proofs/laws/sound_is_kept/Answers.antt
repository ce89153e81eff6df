use Rattle.cx_edf.proofs.MemoryLemmas.{sound_is_kept}
use Rattle.cx_edf.proofs.laws.sound_is_kept.Goals as goal

pub returns : goal.returns
returns c = sound_is_kept c.sound_is_kept.ensures
