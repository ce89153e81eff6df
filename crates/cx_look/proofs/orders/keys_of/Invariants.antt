use Rattle.std.proofs.Common.{◌≡◌, ◌++◌, drop}
use Rattle.std.specs.List.{AllByRecursion, flat_map}
use Rattle.cx_orders.specs.Moves.{IsFew}
use Rattle.cx_look.specs.Orders.{keys_in, orders_line_of}
use Rattle.cx_look.proofs.orders.keys_of.Given as goal

abbrev pub invariant-loop-line : goal.invariant-loop-line
invariant-loop-line l =
    (l.keys.items ++ flat_map (λ text. keys_in (orders_line_of text)) (drop l.line-index l.lines)
    ≡ flat_map (λ text. keys_in (orders_line_of text)) l.lines)
    × AllByRecursion IsFew l.keys.items
