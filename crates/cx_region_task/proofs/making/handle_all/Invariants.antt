use Rattle.std.proofs.Common.{◌≡◌, drop}
use Rattle.cx_region_task.specs.Changes.{with_labels}
use Rattle.cx_region_task.proofs.making.handle_all.Given as goal

-- the entries asked for, and those in the rest of the list
abbrev pub invariant-loop-listed : goal.invariant-loop-listed
invariant-loop-listed l = with_labels (drop l.listed-index l.conditions) l.table ≡ with_labels l.conditions l.initial.table
