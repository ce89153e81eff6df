-- The hash of a region (this product's own): any function of its state will do, and it is made of what tasks change
-- most.
use Rattle.std.specs.Prelude.{ℕ, List, fold, length, Option, Some, None}
use Rattle.cx_base.specs.Hash.{hash_with, hash_of}
use Rattle.cx_service.specs.Queues.{Queues}
use Rattle.cx_storage_snapshot.specs.Hash.{storage_hash}
use Rattle.cx_region_state.specs.State.{TaskState}
use Rattle.cx_region.specs.State.{RegionState}

-- the hash with the registers and the next address of one task more, where there is one
abbrev pub hash_with_task : ℕ → Option TaskState → ℕ
hash_with_task hash None = hash_with hash 0
hash_with_task hash (Some task) = hash_with (hash_of hash task.regs) task.next

-- the hash with how many bytes one item more has, and with these
abbrev pub hash_with_item : ℕ → List ℕ → ℕ
hash_with_item hash item = hash_of (hash_with hash (length item)) item

-- the hash of queues: of how many items each has, and of these, one queue after the other
unfoldable pub queues_hash : Queues → ℕ
queues_hash queues =
    fold (λ hash entry. fold hash_with_item (hash_with hash (length entry.1.items)) entry.1.items) 0 queues

-- the hash of storage, then of each terminal's task, then of queues
unfoldable pub region_hash : RegionState → ℕ
region_hash region =
    hash_with
    (fold (λ hash entry. hash_with_task hash entry.1.task) (storage_hash region.shared.storage) region.terminals)
    (queues_hash region.shared.queues)
