use Rattle.std.proofs.Common.{sym}
use Rattle.cx_region.specs.Facts.SoundDefining.{terminal_room, sound_terminal}
use Rattle.cx_region.proofs.state.Region.define_terminal.Goals as goal

pub put_terminal-requires : goal.put_terminal-requires
put_terminal-requires g c = terminal_room _ c.args.name c.self.invariant (rw c.self.view_is (sym c.in_ok-can_define_terminal.ensures))

pub invariant_of-self-2 : goal.invariant_of-self-2
invariant_of-self-2 g c =
    sound_terminal _ c.args.name _ c.self.invariant (rw c.self.view_is (sym c.in_ok-can_define_terminal.ensures))
    c.in_ok-put_terminal.ensures.put c.in_ok-put_terminal.ensures.distinct

pub returns-clause-sound : goal.returns-clause-sound
returns-clause-sound g c = invariant_of-self-2 g c
