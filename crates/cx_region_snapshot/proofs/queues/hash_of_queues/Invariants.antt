use Rattle.std.proofs.Common.{◌≡◌, fold, length}
use Rattle.cx_base.specs.Hash.{hash_with}
use Rattle.cx_region_snapshot.specs.Hash.{hash_with_item}
use Rattle.cx_region_snapshot.proofs.queues.hash_of_queues.Given as goal

-- the hash so far, with what is left, is that of all
abbrev pub invariant-loop-queue : goal.invariant-loop-queue
invariant-loop-queue l =
    fold (λ hash entry. fold hash_with_item (hash_with hash (length entry.1.items)) entry.1.items) l.hash l.queue-iterator
    ≡ fold (λ hash entry. fold hash_with_item (hash_with hash (length entry.1.items)) entry.1.items) 0 l.queues.entries
