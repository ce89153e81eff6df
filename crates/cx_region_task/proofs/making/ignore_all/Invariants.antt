use Rattle.std.proofs.Common.{◌≡◌, drop}
use Rattle.cx_region_task.specs.Changes.{with_ignored}
use Rattle.cx_region_task.proofs.making.ignore_all.Given as goal

-- the entries asked for, and those in the rest of the list
abbrev pub invariant-loop-listed : goal.invariant-loop-listed
invariant-loop-listed l = with_ignored (drop l.listed-index l.conditions) l.table ≡ with_ignored l.conditions l.initial.table
