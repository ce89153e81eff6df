use Rattle.std.proofs.Common.{◌∙◌}
use Rattle.cx_region_task.proofs.FreshAreas.{replaced}
use Rattle.cx_region_task.proofs.making.get_replacement.Goals as goal

pub returns-clause-ok : goal.returns-clause-ok
returns-clause-ok g c =
    c.put_cap.ensures
    ∙ rw c.put_copied.ensures
    (replaced (g.S.Store.storage c.args.store.now) (g.S.Store.storage c.get_both.new.store) c.args.slot c.args.copying c.args.level.now c.requires.copy c.requires.level c.in_ok-get_both.ensures.ok)
