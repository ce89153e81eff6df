use Rattle.std.proofs.Common.{ap, append_assoc}
use Rattle.cx_region_state.specs.State.{SharedState}
use Rattle.cx_look_fields.proofs.levels.heading_text.Goals as goal

pub returns : goal.returns
returns g c =
    let programs = ap (λ (s : SharedState). s.programs) c.shared.view_is in
    rw (c.in_ok-level_line.ensures, append_assoc, programs) at c.last_command_line.ensures
