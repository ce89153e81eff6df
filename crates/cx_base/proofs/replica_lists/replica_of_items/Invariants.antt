use Rattle.std.proofs.Common.{◌≡◌, take}
use Rattle.cx_base.proofs.replica_lists.replica_of_items.Given as goal

-- those so far
abbrev pub invariant-loop-item : goal.invariant-loop-item
invariant-loop-item g l = l.copy.items ≡ take l.item-index l.items
