use Rattle.std.proofs.Common.{◌∙◌, sym}
use Rattle.cx_look_orders.proofs.StepLemmas.{told_none, told_some}
use Rattle.cx_look_orders.proofs.steps.told_of.Goals as goal

pub returns-then-is_some : goal.returns-then-is_some
returns-then-is_some g c =
    told_some (g.V.Seen.tells c.args.seen.now) c.args.from.now c.args.number c.args.key (sym c.is_some.ensures ∙ c.if-is_some.true)

pub returns : goal.returns
returns g c =
    told_none (g.V.Seen.tells c.args.seen.now) c.args.from.now c.args.number c.args.key c.in_ok-text.text
    (sym c.is_some.ensures ∙ c.if-is_some.false) c.in_ok-text.ensures
