use Rattle.std.proofs.Common.{◌∙◌, ap, sym}
use Rattle.cx_region_state.specs.Facts.Room.{have_room_is}
use Rattle.cx_region_state.specs.Parts.Room.{have_room}
use Rattle.cx_region_state.proofs.outputs.have_room.Goals as goal

pub returns : goal.returns
returns g c = λ text is.
    c.is_room_for_all.ensures
    ∙ ap (λ len. have_room (g.S.Store.storage c.args.store.now) c.args.call.now len c.args.outputs.now) (sym is)
    ∙ have_room_is (g.S.Store.storage c.args.store.now) c.args.call.now text c.args.outputs.now
