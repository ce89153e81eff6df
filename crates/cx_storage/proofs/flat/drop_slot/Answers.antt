use Rattle.std.proofs.Common.{rules}
use Rattle.std.proofs.lemmas.Fn.{filter_same}
use Rattle.cx_storage.specs.Storage.{Held, with_areas_kept, is_of_other_slot}
use Rattle.cx_storage.specs.Facts.Sound.{sound_with_areas_kept}
use Rattle.cx_storage.proofs.flat.drop_slot.Goals as goal

pub returns-clause-after : goal.returns-clause-after
unfolding with_areas_kept
returns-clause-after c = filter_same _ (λ (h : Held). is_of_other_slot c.args.slot h.area) _ (λ x b f' k. search rules) _ _ c.retain.ensures.filtered

pub returns-clause-sound : goal.returns-clause-sound
returns-clause-sound c = rw (returns-clause-after c) (sound_with_areas_kept _ _ c.requires)
