use Rattle.cx_region.proofs.PlacingLemmas.{given_back}
use Rattle.cx_region.proofs.attach.place_task.Goals as goal

pub returns-in-Err-clause-err : goal.returns-in-Err-clause-err
returns-in-Err-clause-err g c = given_back _ _ _ c.args.start.now.slot c.requires.free c.in-Err.ensures.others c.free_slot.ensures
