use Rattle.std.proofs.Common.{◌≡◌, fold, length, take}
use Rattle.cx_base.specs.Hash.{hash_with}
use Rattle.cx_region_snapshot.specs.Hash.{hash_with_item}
use Rattle.cx_region_snapshot.proofs.queues.hash_with_queue.Given as goal

-- the hash of those so far
abbrev pub invariant-loop-item : goal.invariant-loop-item
invariant-loop-item l =
    l.all ≡ fold hash_with_item (hash_with l.hash (length l.items)) (take l.item-index l.items)
