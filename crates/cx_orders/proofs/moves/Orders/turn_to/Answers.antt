use Rattle.std.proofs.Common.{◌∙◌, inl, refl, sym}
use Rattle.cx_orders.specs.Moves.{Moves, turn_number}
use Rattle.cx_orders.proofs.MoveLemmas.{goes_to_none, goes_to_some, no_turn_goes, nowhere_goes, turn_goes}
use Rattle.cx_orders.proofs.moves.Orders.turn_to.Goals as goal

pub returns-in_default : goal.returns-in_default
returns-in_default g c =
    let keys = c.args.self.now.keys in
    let number = c.args.number in
    goes_to_none (Moves keys) c.args.from.now (turn_number number)
    (nowhere_goes keys c.args.from.now number c.in_default.ensures.none (turn_number number) (inl refl))

pub returns-then-is_acting : goal.returns-then-is_acting
returns-then-is_acting g c =
    let keys = c.args.self.now.keys in
    let number = c.args.number in
    goes_to_some (Moves keys) c.args.from.now (turn_number number) c.in_ok-to.to
    (turn_goes keys c.args.from.now number c.calls_decide.ensures.turns c.calls_decide.ensures.keys c.in-Some.asked c.in-Some.ensures.asked
    c.in_ok-to.to c.in_ok-to.ensures)

pub returns : goal.returns
returns g c =
    let keys = c.args.self.now.keys in
    let number = c.args.number in
    goes_to_none (Moves keys) c.args.from.now (turn_number number)
    (no_turn_goes keys c.args.from.now number c.waits_are_reported.ensures c.half_turns_stay.ensures c.in-Some.asked c.in-Some.ensures.asked
    (sym c.is_acting.ensures ∙ c.if-is_acting.false))
