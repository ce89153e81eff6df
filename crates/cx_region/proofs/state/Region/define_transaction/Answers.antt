use Rattle.std.proofs.Common.{sym}
use Rattle.cx_region.specs.Facts.SoundDefining.{sound_transaction}
use Rattle.cx_region.proofs.state.Region.define_transaction.Goals as goal

pub invariant_of-self-2 : goal.invariant_of-self-2
invariant_of-self-2 g c =
    sound_transaction _ c.args.name c.args.program _ c.self.invariant (rw c.self.view_is (sym c.in_ok-can_define_transaction.ensures))
    c.in_ok-put_transaction.ensures.put c.in_ok-put_transaction.ensures.distinct

pub returns-clause-sound : goal.returns-clause-sound
returns-clause-sound g c = invariant_of-self-2 g c
