use Rattle.cx_storage.specs.Facts.Sound.{sound_with_byte, sound_with_area, sound_with_areas_kept}
use Rattle.cx_storage.proofs.WriteLemmas.{sound_written}
use Rattle.cx_storage.proofs.laws.sound_kept.Goals as goal

pub returns : goal.returns
returns c = record { set = sound_with_byte; write = sound_written; get = sound_with_area; free = sound_with_areas_kept }
