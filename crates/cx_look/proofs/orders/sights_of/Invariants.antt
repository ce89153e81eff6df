use Rattle.std.proofs.Common.{◌≡◌, ◌++◌, drop}
use Rattle.std.specs.List.{flat_map}
use Rattle.cx_look.specs.Orders.{orders_line_of, sights_in}
use Rattle.cx_look.proofs.orders.sights_of.Given as goal

abbrev pub invariant-loop-line : goal.invariant-loop-line
invariant-loop-line l =
    l.sights.items ++ flat_map (λ text. sights_in (orders_line_of text)) (drop l.line-index l.lines)
    ≡ flat_map (λ text. sights_in (orders_line_of text)) l.lines
