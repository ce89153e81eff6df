use Rattle.std.proofs.Common.{◌∙◌, ap}
use Rattle.cx_storage.specs.Storage.{is_of_other_slot, with_areas_kept}
use Rattle.cx_region.proofs.EventLemmas.{on_err}
use Rattle.cx_region.proofs.PlacingLemmas.{freed_two}
use Rattle.cx_region.proofs.attach.make_areas.Goals as goal

pub returns-in_err-get_copy-clause-others : goal.returns-in_err-get_copy-clause-others
returns-in_err-get_copy-clause-others g c =
    on_err _ _ (ap (with_areas_kept (is_of_other_slot c.args.start.now.slot)) c.in_err-get_copy.ensures.err
    ∙ freed_two _ _ c.args.start.now.slot _ _ _ c.system_owner-owner.ensures c.in_ok-get_at.ensures.ok)

pub returns-in_err-get_at-2-clause-others : goal.returns-in_err-get_at-2-clause-others
returns-in_err-get_at-2-clause-others g c =
    on_err _ _ (ap (with_areas_kept (is_of_other_slot c.args.start.now.slot)) c.in_err-get_at-2.ensures.err
    ∙ freed_two _ _ c.args.start.now.slot _ _ _ c.system_owner-owner.ensures c.in_ok-get_copy.ensures.ok
    ∙ freed_two _ _ c.args.start.now.slot _ _ _ c.system_owner-owner.ensures c.in_ok-get_at.ensures.ok)
