use Rattle.std.proofs.Common.{◌∙◌, sym}
use Rattle.cx_search.proofs.found.Found.looping.Goals as goal

pub returns-then-has_mark : goal.returns-then-has_mark
returns-then-has_mark g c = λ space start f whole.
    c.in_ok-marks.ensures.right space whole.done whole.linked 0 start (sym c.has_mark.ensures ∙ c.if-has_mark.true) f.begins

pub repeated-requires : goal.repeated-requires
repeated-requires g c = record { stable = c.in_ok-marks.ensures.stable; unmarked = sym c.has_mark.ensures ∙ c.if-has_mark.false }

pub returns : goal.returns
returns g c = λ space start f whole.
    c.in_ok-place.ensures space start f whole (c.in_ok-known.ensures space whole.done start whole.linked whole.enough f.begins)
