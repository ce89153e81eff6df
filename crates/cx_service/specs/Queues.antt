-- Temporary storage queues (Application Programmer's Reference Manual (Command Level), SC33-0077, "Temporary
-- Storage Control"). The limits and the order of the conditions are this product's own.
use Rattle.std.specs.Prelude.{◌≡◌, ℕ, ◌+◌, ◌-◌, ◌≤◌, Bool, true, not, ◌&&◌, ◌==◌, nat_le, nat_lt, if◌then◌else◌, List, [], ◌∷◌, ◌++◌, length, slice_get, slice_set, sum_by, Option, Some, None, is_none, ok_or, unwrap_or, Result, Err}
use Rattle.std.specs.Option.{option_map, option_map_or, option_and_then}
use Rattle.std.specs.List.{AllByRecursion, IsDistinct}
use Rattle.std.specs.Map.{lookup, set_value, keys_of, values_of, remove_entry}
use Rattle.indexmap.specs.IndexMap.{insert_entry}
use Rattle.cx_ebcdic.specs.Names.{is_name}
use Rattle.cx_service.specs.declared.queues.Reading.{Reading}
use Rattle.cx_service.specs.declared.faults.ServiceFault.{ServiceFault}
use Rattle.cx_service.specs.declared.faults.ServiceFault.TheVariants.{Lengerr, Itemerr, Nospace, Qiderr}

-- A queue: its items, and the number of the item last read by any task, counted from 1; 0 where none was.
pub record Queue : Type 0 where
  pub items : List (List ℕ)
  pub last_read : ℕ

-- all queues, each with its name
abbrev pub Queues : Type 0
Queues = List (List ℕ × Queue)

-- ---- limits
abbrev pub most_queues : ℕ
most_queues = 256

abbrev pub most_items : ℕ
most_items = 32767

abbrev pub most_bytes : ℕ
most_bytes = 32767

-- bytes in all queues together
abbrev pub most_data : ℕ
most_data = 4194304

-- a length that an item may have
abbrev pub is_item_length : ℕ → Bool
is_item_length n = nat_le 1 n && nat_le n most_bytes

-- ---- what is there
-- the queue of a name
abbrev pub queue_of : Queues → List ℕ → Option Queue
queue_of queues name = lookup (is_name name) queues

-- the queue of a name; where there is none, one without items, of which none was read
abbrev pub queue_or_empty : Queues → List ℕ → Queue
queue_or_empty queues name = unwrap_or (queue_of queues name) (record { items = []; last_read = 0 })

-- the number of a queue's items
abbrev pub count_of : Queues → List ℕ → Option ℕ
count_of queues name = option_map (λ queue. length queue.items) (queue_of queues name)

-- a queue's item number n, counted from 1
abbrev pub item_numbered : ℕ → Queue → Option (List ℕ)
item_numbered n queue = if n == 0 then None else slice_get queue.items (n - 1)

-- item n of the queue of a name
abbrev pub item_of : Queues → List ℕ → ℕ → Option (List ℕ)
item_of queues name n = option_and_then (item_numbered n) (queue_of queues name)

-- the number of its bytes
abbrev pub item_len_of : Queues → List ℕ → ℕ → Option ℕ
item_len_of queues name n = option_map length (item_of queues name n)

-- the bytes of a queue's items together
abbrev pub size_of : Queue → ℕ
size_of queue = sum_by length queue.items

-- the bytes of all queues together
abbrev pub data_of : Queues → ℕ
data_of queues = sum_by size_of (values_of queues)

-- ---- conditions: the first that applies, or None
-- WRITEQ TS of `len` bytes
unfoldable pub write_fault : Queues → List ℕ → ℕ → Option ServiceFault
write_fault queues name len =
    if not (is_item_length len) then Some Lengerr
    else if nat_le most_items (unwrap_or (count_of queues name) 0) then Some Itemerr
    else if is_none (count_of queues name) && nat_le most_queues (length queues) then Some Nospace
    else if nat_lt most_data (data_of queues + len) then Some Nospace
    else None

-- WRITEQ TS with REWRITE of item n by `len` bytes; the old item doesn't count
unfoldable pub rewrite_fault : Queues → List ℕ → ℕ → ℕ → Option ServiceFault
rewrite_fault queues name n len =
    if not (is_item_length len) then Some Lengerr
    else if is_none (count_of queues name) then Some Qiderr
    else if is_none (item_len_of queues name n) then Some Itemerr
    else if nat_lt most_data (data_of queues - unwrap_or (item_len_of queues name n) 0 + len) then Some Nospace
    else None

-- ---- READQ TS
-- what is read of a queue: the item with the number that is asked for, else the one after the item last read
unfoldable pub reading_of_queue : Option ℕ → Queue → Option Reading
reading_of_queue asked queue =
    let number = unwrap_or asked (queue.last_read + 1) in
    option_map (λ item. record { number = number; len = length item; count = length queue.items })
    (item_numbered number queue)

-- what is read where a queue of that name is asked for: first it must be there, then such an item
unfoldable pub reading_of : Queues → List ℕ → Option ℕ → Result Reading ServiceFault
reading_of queues name asked =
    option_map_or (λ queue. ok_or (reading_of_queue asked queue) Itemerr) (queue_of queues name) (Err Qiderr)

-- ---- effects
-- a new item goes last in its queue; a queue that isn't there is made, and goes last
unfoldable pub with_item : Queues → List ℕ → List ℕ → Queues
with_item queues name bytes =
    let queue = queue_or_empty queues name in
    insert_entry is_name queues name (record queue { items = queue.items ++ bytes ∷ [] })

-- item n of the queue is replaced; the number last read stays
unfoldable pub with_item_at : Queues → List ℕ → ℕ → List ℕ → Queues
with_item_at queues name n bytes =
    let queue = queue_or_empty queues name in
    set_value (is_name name) queues (record queue { items = slice_set queue.items (n - 1) bytes })

-- item n of the queue is the one last read
unfoldable pub with_last_read : Queues → List ℕ → ℕ → Queues
with_last_read queues name n =
    set_value (is_name name) queues (record (queue_or_empty queues name) { last_read = n })

-- the queue is gone, and its number last read with it
unfoldable pub without_queue : Queues → List ℕ → Queues
without_queue queues name = remove_entry (is_name name) queues

-- ---- what always holds
-- a queue within the limits, of which an item was read last that is there, or none
pub record IsSoundQueue (queue : Queue) : Type 0 where
  pub some : 1 ≤ length queue.items
  pub few : length queue.items ≤ most_items
  pub lengths : AllByRecursion (λ item. is_item_length (length item) ≡ true) queue.items
  pub read : queue.last_read ≤ length queue.items

-- queues with names of their own, within the limits
pub record AreSoundQueues (queues : Queues) : Type 0 where
  pub distinct : IsDistinct is_name (keys_of queues)
  pub few : length queues ≤ most_queues
  pub each : AllByRecursion (λ entry. IsSoundQueue entry.1) queues
  pub light : data_of queues ≤ most_data
