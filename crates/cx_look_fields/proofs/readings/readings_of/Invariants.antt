use Rattle.std.proofs.Common.{◌≡◌, ◌++◌, drop, option_and_then}
use Rattle.std.specs.List.{filter_map}
use Rattle.cx_look_fields.specs.Readings.{reading_in}
use Rattle.cx_look_fields.proofs.readings.readings_of.Given as goal

abbrev pub invariant-loop-item : goal.invariant-loop-item
invariant-loop-item l =
    l.readings.items ++ filter_map (λ item. option_and_then reading_in item.stmt) (drop l.item-index l.source.items)
    ≡ filter_map (λ item. option_and_then reading_in item.stmt) l.source.items
