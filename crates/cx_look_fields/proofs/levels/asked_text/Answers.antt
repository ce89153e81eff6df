use Rattle.std.proofs.Common.{append_assoc}
use Rattle.cx_look_fields.proofs.levels.asked_text.Goals as goal

pub returns : goal.returns
returns c =
    rw (c.in_ok-handling_lines.ensures, append_assoc, c.active-active.ensures, c.kept.ensures.value) at c.pushed_lines.ensures
