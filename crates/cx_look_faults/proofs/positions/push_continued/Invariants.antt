use Rattle.std.proofs.Common.{◌≡◌, ◌++◌, drop}
use Rattle.std.specs.List.{flat_map}
use Rattle.cx_look_faults.specs.Marks.{positions_on}
use Rattle.cx_look_faults.proofs.positions.push_continued.Given as goal

abbrev pub invariant-loop-item : goal.invariant-loop-item
invariant-loop-item l =
    l.positions.items ++ flat_map (positions_on 16) (drop l.item-index l.items) ≡ l.initial.positions.items ++ flat_map (positions_on 16) l.items
