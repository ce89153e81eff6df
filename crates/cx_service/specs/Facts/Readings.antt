-- What holds of an item that READQ TS reads.
use Rattle.std.proofs.Common.{◌≡◌, ℕ, zero, suc, ◌+◌, ◌-◌, ◌≤◌, ◌==◌, Bool, true, false, List, [], ◌∷◌, length, Option, Some, None, Ok, Err, ok_or, slice_get, is_some, unwrap_or, if◌then◌else◌, refl, ap, subst, ◌∙◌}
use Rattle.std.specs.Option.{option_and_then, option_map, option_map_or}
use Rattle.std.specs.List.{AllByRecursion}
use Rattle.std.proofs.lemmas.Bool.{and_parts, leb-true}
use Rattle.std.proofs.lemmas.Option.{none-some, same_Some}
use Rattle.cx_service.specs.declared.faults.ServiceFault.TheVariants as fault
use Rattle.cx_service.specs.declared.queues.Reading.{Reading}
use Rattle.cx_service.specs.Queues.{Queue, Queues, item_len_of, item_numbered, item_of, queue_of, reading_of_queue, reading_of, is_item_length, IsSoundQueue}

-- the item is there, and the numbers are within the limits
pub record IsReading (queue : Queue) (reading : Reading) : Type 0 where
  pub item : option_map length (item_numbered reading.number queue) ≡ Some reading.len
  pub some : 1 ≤ reading.len
  pub few : reading.len ≤ 32767
  pub count : reading.count ≤ 32767

long_at : (items : List (List ℕ)) (k : ℕ) (item : List ℕ) → AllByRecursion (λ i. is_item_length (length i) ≡ true) items
    → slice_get items k ≡ Some item → is_item_length (length item) ≡ true
long_at [] k item each e = absurd (none-some item e)
long_at (first ∷ items) zero item each e = subst (λ i. is_item_length (length i) ≡ true) (same_Some _ _ e) each.0
long_at (first ∷ items) (suc k) item each e = long_at items k item each.1 e

long_if : (b : Bool) (o : Option (List ℕ)) (item : List ℕ) → (o ≡ Some item → is_item_length (length item) ≡ true)
    → (if b then None else o) ≡ Some item → is_item_length (length item) ≡ true
long_if true o item long e = absurd (none-some item e)
long_if false o item long e = long e

pub numbered_long : (n : ℕ) (queue : Queue) (item : List ℕ) → IsSoundQueue queue → item_numbered n queue ≡ Some item
    → is_item_length (length item) ≡ true
numbered_long n queue item sound e = long_if (n == 0) (slice_get queue.items (n - 1)) item (long_at queue.items (n - 1) item sound.lengths) e

-- an item that has a length is there
pub item_there : (queues : Queues) (name : List ℕ) (n len : ℕ) → item_len_of queues name n ≡ Some len → is_some (item_of queues name n) ≡ true
item_there queues name n len is = go (item_of queues name n) is
  where
    go : (o : Option (List ℕ)) → option_map length o ≡ Some len → is_some o ≡ true
    go None e = absurd (none-some len e)
    go (Some item) e = refl

pub reading_is : (asked : Option ℕ) (queue : Queue) (reading : Reading) → IsSoundQueue queue → reading_of_queue asked queue ≡ Some reading
    → IsReading queue reading
unfolding reading_of_queue
reading_is asked queue reading sound is = by_item (item_numbered n queue) refl is
  where
    n : ℕ
    n = unwrap_or asked (queue.last_read + 1)

    of : List ℕ → Reading
    of item = record { number = n; len = length item; count = length queue.items }

    by_item : (o : Option (List ℕ)) → item_numbered n queue ≡ o → option_map of o ≡ Some reading → IsReading queue reading
    by_item None there e = absurd (none-some reading e)
    by_item (Some item) there e =
        let both = and_parts _ _ (numbered_long n queue item sound there) in
        subst (IsReading queue) (same_Some _ _ e)
        (record { item = ap (option_map length) there; some = leb-true _ _ both.0; few = leb-true _ _ both.1; count = sound.few })

-- an item that is read is there, at its number
numbered_there : (asked : Option ℕ) (queue : Queue) (reading : Reading) → reading_of_queue asked queue ≡ Some reading
    → (is_some (item_numbered reading.number queue) ≡ true) × (reading.number ≡ unwrap_or asked (queue.last_read + 1))
unfolding reading_of_queue
numbered_there asked queue reading is = by_item (item_numbered n queue) refl is
  where
    n : ℕ
    n = unwrap_or asked (queue.last_read + 1)

    of : List ℕ → Reading
    of item = record { number = n; len = length item; count = length queue.items }

    by_item : (o : Option (List ℕ)) → item_numbered n queue ≡ o → option_map of o ≡ Some reading
        → (is_some (item_numbered reading.number queue) ≡ true) × (reading.number ≡ n)
    by_item None there e = absurd (none-some reading e)
    by_item (Some item) there e =
        subst (λ (r : Reading). (is_some (item_numbered r.number queue) ≡ true) × (r.number ≡ n)) (same_Some _ _ e) (ap is_some there, refl)

pub reading_there : (queues : Queues) (name : List ℕ) (asked : Option ℕ) (reading : Reading) → reading_of queues name asked ≡ Ok reading
    → is_some (item_of queues name reading.number) ≡ true
unfolding reading_of
reading_there queues name asked reading is = by_queue (queue_of queues name) is
  where
    by_reading : (queue : Queue) (o : Option Reading) → reading_of_queue asked queue ≡ o → ok_or o fault.Itemerr ≡ Ok reading
        → is_some (item_numbered reading.number queue) ≡ true
    by_reading queue None there e = cc
    by_reading queue (Some found) there e =
        let same : found ≡ reading = cc in (numbered_there asked queue reading (there ∙ ap Some same)).0

    by_queue : (o : Option Queue) → option_map_or (λ queue. ok_or (reading_of_queue asked queue) fault.Itemerr) o (Err fault.Qiderr) ≡ Ok reading
        → is_some (option_and_then (item_numbered reading.number) o) ≡ true
    by_queue None e = cc
    by_queue (Some queue) e = by_reading queue (reading_of_queue asked queue) refl e

pub number_asked : (queues : Queues) (name : List ℕ) (n : ℕ) (reading : Reading) → reading_of queues name (Some n) ≡ Ok reading → reading.number ≡ n
unfolding reading_of
number_asked queues name n reading is = by_queue (queue_of queues name) is
  where
    by_reading : (queue : Queue) (o : Option Reading) → reading_of_queue (Some n) queue ≡ o → ok_or o fault.Itemerr ≡ Ok reading → reading.number ≡ n
    by_reading queue None there e = cc
    by_reading queue (Some found) there e =
        let same : found ≡ reading = cc in (numbered_there (Some n) queue reading (there ∙ ap Some same)).1

    by_queue : (o : Option Queue) → option_map_or (λ queue. ok_or (reading_of_queue (Some n) queue) fault.Itemerr) o (Err fault.Qiderr) ≡ Ok reading
        → reading.number ≡ n
    by_queue None e = cc
    by_queue (Some queue) e = by_reading queue (reading_of_queue (Some n) queue) refl e
