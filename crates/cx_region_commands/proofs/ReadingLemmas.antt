-- What is read, as the row of READQ TS has it.
use Rattle.std.proofs.Common.{◌≡◌, ℕ, List, Option, None, Some, Result, Ok, Err, ok_or}
use Rattle.std.specs.Prelude.{MatchOption}
use Rattle.std.specs.Option.{option_map_or}
use Rattle.cx_service.specs.declared.faults.ServiceFault.{ServiceFault}
use Rattle.cx_service.specs.declared.faults.ServiceFault.TheVariants.{Itemerr, Qiderr}
use Rattle.cx_service.specs.declared.queues.Reading.{Reading}
use Rattle.cx_service.specs.Queues.{Queue, Queues, queue_of, reading_of_queue, reading_of}

-- an answer is that of no queue, of no item, or of an item that is there
pub by_answer : {P Q : Type 0} {R : Reading → Type 0} (queues : Queues) (name : List ℕ) (asked : Option ℕ) (r : Result Reading ServiceFault)
    → r ≡ reading_of queues name asked → (r ≡ Err Qiderr → P) → (r ≡ Err Itemerr → Q) → ((reading : Reading) → r ≡ Ok reading → R reading)
    → MatchOption (queue_of queues name) P (λ queue. MatchOption (reading_of_queue asked queue) Q R)
unfolding reading_of
by_answer {P} {Q} {R} queues name asked r is no_queue no_item there = by_queue (queue_of queues name) is
  where
    by_item : (o : Option Reading) → r ≡ ok_or o Itemerr → MatchOption o Q R
    by_item None e = no_item e
    by_item (Some reading) e = there reading e

    by_queue : (o : Option Queue) → r ≡ option_map_or (λ queue. ok_or (reading_of_queue asked queue) Itemerr) o (Err Qiderr)
        → MatchOption o P (λ queue. MatchOption (reading_of_queue asked queue) Q R)
    by_queue None e = no_queue e
    by_queue (Some queue) e = by_item (reading_of_queue asked queue) e
