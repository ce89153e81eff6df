use Rattle.std.proofs.Common.{◌∙◌, List, ℕ, refl, ap}
use Rattle.cx_region_state.specs.State.{SharedState, TaskContext, context}
use Rattle.cx_region_state.specs.Outputs.{can_put}
use Rattle.cx_region_state.specs.Verdicts.{handed_over}
use Rattle.cx_region_task.specs.Decisions.{has_room}
use Rattle.cx_region_task.proofs.RoomLemmas.{text_is}
use Rattle.cx_region_task.proofs.outputs.has_room.Goals as goal

pub returns : goal.returns
unfolding has_room
returns g c =
    let act = c.args.act.now in
    let r : TaskContext = context c.args.shared.now c.args.terminal_entry.now c.args.task.now in
    let text : List ℕ = handed_over act.change r in
    let is = text_is act.change r c.terminal_entry.inside.input c.text_len-len.result c.requires (rw (← c.terminal_entry.view_is) refl) c.text_len-len.ensures in
    c.have_room.ensures text is ∙ ap (λ (shared : SharedState). can_put shared.storage act.call text act.outputs) c.shared.view_is
