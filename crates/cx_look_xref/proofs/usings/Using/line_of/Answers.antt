use Rattle.std.proofs.Common.{ap, ◌∙◌}
use Rattle.std.specs.Fmt.{decimal}
use Rattle.cx_look_xref.proofs.usings.Using.line_of.Goals as goal

pub returns : goal.returns
returns c =
    let register = c.deref.ensures.value ∙ c.in_ok-register.ensures in
    let from = c.deref-2.ensures.value ∙ c.in_ok-from.ensures ∙ ap (λ n. decimal n) c.line.ensures in
    let to = c.deref-3.ensures.value ∙ c.in_ok-to.ensures ∙ ap (λ n. decimal n) c.in_ok-end.ensures in
    let place = c.deref-4.ensures.value ∙ c.in_ok-place.ensures in
    rw (← register, ← from, ← to, ← place) c.line-2.ensures
