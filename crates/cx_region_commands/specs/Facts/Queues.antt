-- A queue that is found is sound, and how many items it has.
use Rattle.std.proofs.Common.{refl, ◌≡◌, ℕ, ◌≤◌, List, length, Option, Some, None, unwrap_or, arith}
use Rattle.std.specs.Option.{option_map}
use Rattle.cx_ebcdic.specs.Names.{is_name}
use Rattle.cx_service.specs.Queues.{Queue, Queues, queue_of, count_of, IsSoundQueue, AreSoundQueues}
use Rattle.cx_base.specs.Facts.Tables.{found_meets}

-- what holds of each sound queue holds of the one that is found
pub found : (queues : Queues) (name : List ℕ) → AreSoundQueues queues → (queue : Queue) → queue_of queues name ≡ Some queue → IsSoundQueue queue
found queues name sound queue there = found_meets IsSoundQueue (is_name name) queues queue sound.each there

few_of : (o : Option Queue) → ((queue : Queue) → o ≡ Some queue → IsSoundQueue queue) → unwrap_or (option_map (λ queue. length queue.items) o) 0 ≤ 32767
few_of None each = omega arith
few_of (Some queue) each = (each queue refl).few

pub few_items : (queues : Queues) (name : List ℕ) → AreSoundQueues queues → unwrap_or (count_of queues name) 0 ≤ 32767
few_items queues name sound = few_of (queue_of queues name) (found queues name sound)
