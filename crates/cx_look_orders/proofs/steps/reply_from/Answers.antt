use Rattle.std.proofs.Common.{subst}
use Rattle.cx_region.specs.Turn.{TakesTurn}
use Rattle.cx_look_orders.proofs.steps.reply_from.Goals as goal

pub returns : goal.returns
returns g c = subst (λ r. TakesTurn r c.args.name c.in_ok-reply.reply c.turn.new.self) c.in_ok-restore.ensures.ok c.in_ok-reply.ensures.turned
