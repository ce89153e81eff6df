use Rattle.std.proofs.Common.{Some, ap, sym, ◌∙◌}
use Rattle.cx_region.proofs.KeyLemmas.{key_giving, key_held}
use Rattle.cx_region.proofs.state.Region.asked.Goals as goal

pub returns-then-is_some-2-clause-value : goal.returns-then-is_some-2-clause-value
returns-then-is_some-2-clause-value g c =
    λ aid. key_held _ _ _ _ (sym c.in-Some.ensures.value ∙ ap Some (sym c.terminal-2.view_is))
    (rw (← c.terminal-inside.view_is) (sym c.if-is_some.ensures)) (rw (← c.terminal-inside.view_is) (sym c.if-is_some-2.ensures))

pub returns-then-is_some-clause-value : goal.returns-then-is_some-clause-value
returns-then-is_some-clause-value g c =
    key_giving _ _ _ (sym c.in-Some.ensures.value ∙ ap Some (sym c.terminal-2.view_is))
    (rw (← c.terminal-inside.view_is) (sym c.if-is_some.ensures)) (rw (← c.terminal-inside.view_is) (sym c.if-is_some-2.ensures))
