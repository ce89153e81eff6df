use Rattle.cx_region_laws.proofs.SoundLemmas.{sound_is_kept}
use Rattle.cx_region_laws.proofs.laws.sound_is_kept.Goals as goal

pub returns : goal.returns
returns c = sound_is_kept c.half_turns_keep.ensures
