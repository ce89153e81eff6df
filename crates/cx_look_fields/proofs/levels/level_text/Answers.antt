use Rattle.std.proofs.Common.{ap, append_assoc}
use Rattle.cx_region_state.specs.State.{SharedState}
use Rattle.cx_look_fields.specs.Levels.{level_text}
use Rattle.cx_look_fields.proofs.levels.level_text.Goals as goal

pub returns : goal.returns
unfolding level_text
returns g c =
    let programs = ap (λ (s : SharedState). s.programs) c.shared.view_is in
    rw (c.in_ok-heading_text.ensures, append_assoc, c.places.ensures, programs) at c.asked_text.ensures
