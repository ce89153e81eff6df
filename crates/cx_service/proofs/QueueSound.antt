-- What always holds of the queues is kept, and what becomes of the bytes of all.
use Rattle.std.proofs.Common.{◌≡◌, ℕ, zero, suc, ◌+◌, ◌-◌, ◌<◌, ◌≤◌, Bool, true, false, cond, Option, Some, None, List, [], ◌∷◌, ◌++◌, length, get_or, refl, sym, ◌∙◌, ap, subst, arith, nat_le}
use Rattle.std.specs.Prelude.{◌&&◌, is_none, is_some, unwrap_or, sum_by, slice_get, slice_set, ◌==◌}
use Rattle.std.specs.Option.{option_map, option_and_then}
use Rattle.std.specs.List.{AllByRecursion, IsDistinct}
use Rattle.std.specs.Map.{set_value, keys_of, values_of, remove_entry}
use Rattle.std.proofs.lemmas.Bool.{cond-true, cond-false, not-false, leb-false, ltb-false, eqb-false, true≢false}
use Rattle.std.proofs.lemmas.Option.{none-some, same_Some, slice_get_within, get_or_from_slice_get}
use Rattle.std.proofs.lemmas.List.{map-append, length_push, length-set}
use Rattle.std.proofs.lemmas.List.Sums.{sum_by_push, sum_by-set}
use Rattle.std.proofs.lemmas.Map.{length-set_value}
use Rattle.std.proofs.lemmas.Map.Entries.{sum_by-set_value, sum_by-remove_entry}
use Rattle.indexmap.specs.IndexMap.{insert_entry}
use Rattle.cx_ebcdic.specs.Names.{is_name}
use Rattle.cx_ebcdic.specs.Facts.Names.{is_name-laws}
use Rattle.cx_service.specs.Queues.{Queue, Queues, most_queues, most_items, most_data, is_item_length, queue_of, queue_or_empty, count_of, item_numbered, item_of, item_len_of, size_of, data_of, write_fault, rewrite_fault, with_item, with_item_at, with_last_read, IsSoundQueue, AreSoundQueues}
use Rattle.cx_base.specs.Facts.Tables.{insert_entry_present, insert_entry_absent, found_meets, each-set_value, each-remove_entry, each-insert_entry, length-remove_entry, distinct-set_value, distinct-insert_entry}

-- ---- what conditions say
pub no_fault : {F : Type 0} (b : Bool) (fault : F) (others : Option F) → cond b (Some fault) others ≡ None → (b ≡ false) × (others ≡ None)
no_fault true fault others e = absurd (none-some fault (sym e))
no_fault false fault others e = (refl, e)

record MayWrite (queues : Queues) (name : List ℕ) (len : ℕ) : Type 0 where
  long : is_item_length len ≡ true
  numbers : unwrap_or (count_of queues name) 0 < 32767
  named : is_none (count_of queues name) && nat_le most_queues (length queues) ≡ false
  light : data_of queues + len ≤ most_data

may_write : (queues : Queues) (name : List ℕ) (len : ℕ) → write_fault queues name len ≡ None → MayWrite queues name len
unfolding write_fault
may_write queues name len none =
    let a = no_fault _ _ _ none in
    let b = no_fault _ _ _ a.1 in
    let c = no_fault _ _ _ b.1 in
    let d = no_fault _ _ _ c.1 in
    record { long = not-false _ a.0; numbers = leb-false _ _ b.0; named = c.0; light = ltb-false _ _ d.0 }

-- ---- a queue, or the empty one
record Fits (queue : Queue) : Type 0 where
  few : length queue.items ≤ 32767
  lengths : AllByRecursion (λ item. is_item_length (length item) ≡ true) queue.items
  read : queue.last_read ≤ length queue.items

count_is : (o : Option Queue) → unwrap_or (option_map (λ queue. length queue.items) o) 0 ≡ length (unwrap_or o (record { items = []; last_read = 0 })).items
count_is None = refl
count_is (Some queue) = refl

fits_found : (o : Option Queue) → ((queue : Queue) → o ≡ Some queue → IsSoundQueue queue) → Fits (unwrap_or o (record { items = []; last_read = 0 }))
fits_found None sound = record { few = omega arith; lengths = tt; read = omega arith }
fits_found (Some queue) sound = let s = sound queue refl in record { few = s.few; lengths = s.lengths; read = s.read }

fits : (queues : Queues) (name : List ℕ) → AreSoundQueues queues → Fits (queue_or_empty queues name)
fits queues name sound = fits_found (queue_of queues name) (λ queue there. found_meets IsSoundQueue (is_name name) queues queue sound.each there)

lengths_push : (items : List (List ℕ)) (item : List ℕ) → is_item_length (length item) ≡ true → AllByRecursion (λ i. is_item_length (length i) ≡ true) items → AllByRecursion (λ i. is_item_length (length i) ≡ true) (items ++ item ∷ [])
lengths_push [] item long all = (long, tt)
lengths_push (i ∷ items) item long all = (all.0, lengths_push items item long all.1)

lengths_set : (items : List (List ℕ)) (at : ℕ) (item : List ℕ) → is_item_length (length item) ≡ true → AllByRecursion (λ i. is_item_length (length i) ≡ true) items → AllByRecursion (λ i. is_item_length (length i) ≡ true) (slice_set items at item)
lengths_set [] at item long all = tt
lengths_set (i ∷ items) zero item long all = (long, all.1)
lengths_set (i ∷ items) (suc at) item long all = (all.0, lengths_set items at item long all.1)

-- ---- the bytes of all, and the number of queues, after an insertion
sum_is : (o : Option Queue) → unwrap_or (option_map size_of o) 0 ≡ size_of (unwrap_or o (record { items = []; last_read = 0 }))
sum_is None = refl
sum_is (Some queue) = refl

data-insert : (queues : Queues) (name : List ℕ) (queue : Queue) (o : Option Queue) → queue_of queues name ≡ o → data_of (insert_entry is_name queues name queue) + unwrap_or (option_map size_of o) 0 ≡ data_of queues + size_of queue
data-insert queues name queue None none =
    let at_end : data_of (insert_entry is_name queues name queue) ≡ data_of queues + size_of queue =
    ap data_of (insert_entry_absent is_name queues name queue none)
    ∙ ap (sum_by size_of) (map-append (λ (e : List ℕ × Queue). e.1) queues ((name, queue) ∷ []))
    ∙ sum_by_push size_of (values_of queues) queue in
    omega arith
data-insert queues name queue (Some old) there =
    ap (λ fs. data_of fs + size_of old) (insert_entry_present is_name queues name queue old there)
    ∙ sum_by-set_value size_of (is_name name) queues old queue there

few-insert : (queues : Queues) (name : List ℕ) (queue : Queue) (o : Option Queue) → queue_of queues name ≡ o → length queues ≤ 256 → is_none (option_map (λ (q : Queue). length q.items) o) && nat_le 256 (length queues) ≡ false → length (insert_entry is_name queues name queue) ≤ 256
few-insert queues name queue None none few free =
    let room : length queues < 256 = leb-false _ _ free in
    let longer : length (insert_entry is_name queues name queue) ≡ length queues + 1 =
    ap length (insert_entry_absent is_name queues name queue none) ∙ length_push queues (name, queue) in
    omega arith
few-insert queues name queue (Some old) there few free =
    let same : length (insert_entry is_name queues name queue) ≡ length queues =
    ap length (insert_entry_present is_name queues name queue old there) ∙ length-set_value (is_name name) queues queue in
    omega arith

-- ---- WRITEQ TS
pub record Keeps (queues : Queues) (total : ℕ) : Type 0 where
  pub sound : AreSoundQueues queues
  pub all : total ≡ data_of queues

pub written_keeps : (queues : Queues) (name bytes : List ℕ) → AreSoundQueues queues → write_fault queues name (length bytes) ≡ None → Keeps (with_item queues name bytes) (data_of queues + length bytes)
unfolding with_item
written_keeps queues name bytes sound none =
    let may = may_write queues name (length bytes) none in
    let old : Fits (queue_or_empty queues name) = fits queues name sound in
    let queue : Queue = queue_or_empty queues name in
    let new : Queue = record queue { items = queue.items ++ bytes ∷ [] } in
    let longer : length (queue.items ++ bytes ∷ []) ≡ length queue.items + 1 = length_push queue.items bytes in
    let count : unwrap_or (count_of queues name) 0 ≡ length queue.items = count_is (queue_of queues name) in
    let room : unwrap_or (count_of queues name) 0 < 32767 = may.numbers in
    let read : queue.last_read ≤ length queue.items = old.read in
    let one : IsSoundQueue new = record {
      some = omega arith;
      few = omega arith;
      lengths = lengths_push queue.items bytes may.long old.lengths;
      read = omega arith;
    } in
    let more : size_of new ≡ size_of queue + length bytes = sum_by_push length queue.items bytes in
    let sum = data-insert queues name new (queue_of queues name) refl in
    let was : unwrap_or (option_map size_of (queue_of queues name)) 0 ≡ size_of queue = sum_is (queue_of queues name) in
    let total : data_of queues + length bytes ≡ data_of (insert_entry is_name queues name new) = omega arith in
    let light : data_of queues + length bytes ≤ most_data = may.light in
    record {
      sound = record {
        distinct = distinct-insert_entry is_name is_name-laws queues name new sound.distinct;
        few = few-insert queues name new (queue_of queues name) refl sound.few may.named;
        each = each-insert_entry IsSoundQueue is_name queues name new one sound.each;
        light = omega arith;
      };
      all = total;
    }

-- ---- a queue that is there is changed
pub changed_keeps : (queues : Queues) (name : List ℕ) (old new : Queue) → AreSoundQueues queues → queue_of queues name ≡ Some old → IsSoundQueue new → (total : ℕ) → total + size_of old ≡ data_of queues + size_of new → total ≤ most_data → Keeps (set_value (is_name name) queues new) total
changed_keeps queues name old new sound there one total sum light =
    let known : data_of (set_value (is_name name) queues new) + size_of old ≡ data_of queues + size_of new = sum_by-set_value size_of (is_name name) queues old new there in
    let all : total ≡ data_of (set_value (is_name name) queues new) = omega arith in
    let same : length (set_value (is_name name) queues new) ≡ length queues = length-set_value (is_name name) queues new in
    let few : length queues ≤ most_queues = sound.few in
    record {
      sound = record {
        distinct = distinct-set_value is_name (is_name name) queues new sound.distinct;
        few = omega arith;
        each = each-set_value IsSoundQueue (is_name name) queues new one sound.each;
        light = omega arith;
      };
      all = all;
    }

-- an item that is there
record Numbers (queue : Queue) (n len : ℕ) : Type 0 where
  from : 1 ≤ n
  to : n ≤ length queue.items
  size : length (get_or queue.items (n - 1) []) ≡ len

numbers : (queue : Queue) (n len : ℕ) → option_map length (item_numbered n queue) ≡ Some len → Numbers queue n len
numbers queue n len there = by_test (n == 0) refl
  where
    found : (o : Option (List ℕ)) → slice_get queue.items (n - 1) ≡ o → option_map length o ≡ Some len → (item : List ℕ) × (slice_get queue.items (n - 1) ≡ Some item) × (length item ≡ len)
    found None is e = absurd (none-some len e)
    found (Some item) is e = (item, is, same_Some _ _ e)

    by_test : (b : Bool) → (n == 0) ≡ b → Numbers queue n len
    by_test true zero_is = absurd (none-some len (sym (ap (option_map length) (cond-true (n == 0) None (slice_get queue.items (n - 1)) zero_is)) ∙ there))
    by_test false not_zero =
        let item = found (slice_get queue.items (n - 1)) refl (sym (ap (option_map length) (cond-false (n == 0) None (slice_get queue.items (n - 1)) not_zero)) ∙ there) in
        let within : n - 1 < length queue.items = slice_get_within queue.items (n - 1) item.0 item.1 in
        let above : n ≡ 0 → ⊥ = eqb-false n 0 not_zero in
        record {
          from = omega arith;
          to = omega arith;
          size = ap length (get_or_from_slice_get queue.items (n - 1) item.0 [] item.1) ∙ item.2;
        }

record Found (queues : Queues) (name : List ℕ) (n : ℕ) : Type 0 where
  queue : Queue
  there : queue_of queues name ≡ Some queue
  len : ℕ
  item : item_len_of queues name n ≡ Some len
  at : Numbers queue n len

found_item : (queues : Queues) (name : List ℕ) (n : ℕ) → is_none (item_len_of queues name n) ≡ false → Found queues name n
found_item queues name n some = by_queue (queue_of queues name) refl some
  where
    by_item : (queue : Queue) → queue_of queues name ≡ Some queue → (o : Option ℕ) → option_map length (item_numbered n queue) ≡ o → is_none o ≡ false → Found queues name n
    by_item queue there None is has = absurd (true≢false has)
    by_item queue there (Some len) is has = record {
      queue = queue;
      there = there;
      len = len;
      item = ap (λ o. option_map length (option_and_then (item_numbered n) o)) there ∙ is;
      at = numbers queue n len is;
    }

    by_queue : (o : Option Queue) → queue_of queues name ≡ o → is_none (option_map length (option_and_then (item_numbered n) o)) ≡ false → Found queues name n
    by_queue None is has = absurd (true≢false has)
    by_queue (Some queue) is has = by_item queue is (option_map length (item_numbered n queue)) refl has

or_empty : (queues : Queues) (name : List ℕ) (queue : Queue) → queue_of queues name ≡ Some queue → queue_or_empty queues name ≡ queue
or_empty queues name queue there = ap (λ o. unwrap_or o (record { items = []; last_read = 0 })) there

-- ---- READQ TS
item_there : (o : Option (List ℕ)) → is_some o ≡ true → is_none (option_map length o) ≡ false
item_there None e = absurd (true≢false (sym e))
item_there (Some item) e = refl

pub read_keeps : (queues : Queues) (name : List ℕ) (n : ℕ) → AreSoundQueues queues → is_some (item_of queues name n) ≡ true → Keeps (with_last_read queues name n) (data_of queues)
unfolding with_last_read
read_keeps queues name n sound there =
    let found = found_item queues name n (item_there (item_of queues name n) there) in
    let was : IsSoundQueue found.queue = found_meets IsSoundQueue (is_name name) queues found.queue sound.each found.there in
    let one : IsSoundQueue (record found.queue { last_read = n }) = record { some = was.some; few = was.few; lengths = was.lengths; read = found.at.to } in
    let light : data_of queues ≤ most_data = sound.light in
    rw (or_empty queues name found.queue found.there)
    (changed_keeps queues name found.queue (record found.queue { last_read = n }) sound found.there one (data_of queues) refl light)

-- a queue's bytes are among those of all
pub size_within : (queues : Queues) (name : List ℕ) (queue : Queue) → queue_of queues name ≡ Some queue → size_of queue ≤ data_of queues
size_within queues name queue there =
    let sum = sum_by-remove_entry size_of (is_name name) queues in
    let part : unwrap_or (option_map size_of (queue_of queues name)) 0 ≡ size_of queue = ap (λ o. unwrap_or (option_map size_of o) 0) there in
    omega arith

-- ---- WRITEQ TS with REWRITE
pub rewrite_facts : (queues : Queues) (name : List ℕ) (n len : ℕ) → AreSoundQueues queues → unwrap_or (item_len_of queues name n) 0 ≤ data_of queues
rewrite_facts queues name n len sound = by_item (is_none (item_len_of queues name n)) refl
  where
    none_there : (o : Option ℕ) → is_none o ≡ true → unwrap_or o 0 ≤ data_of queues
    none_there None e = omega arith
    none_there (Some m) e = absurd (true≢false (sym e))

    by_item : (b : Bool) → is_none (item_len_of queues name n) ≡ b → unwrap_or (item_len_of queues name n) 0 ≤ data_of queues
    by_item true e = none_there _ e
    by_item false e =
        let found = found_item queues name n e in
        let part : size_of found.queue ≤ data_of queues = size_within queues name found.queue found.there in
        let from : 1 ≤ n = found.at.from in
        let to : n ≤ length found.queue.items = found.at.to in
        let size : length (get_or found.queue.items (n - 1) []) ≡ found.len = found.at.size in
        let sum : sum_by length (slice_set found.queue.items (n - 1) []) + length (get_or found.queue.items (n - 1) []) ≡ size_of found.queue + 0 =
        sum_by-set length found.queue.items (n - 1) [] [] (omega arith) in
        let is : unwrap_or (item_len_of queues name n) 0 ≡ found.len = ap (λ o. unwrap_or o 0) found.item in
        omega arith

pub rewritten_keeps : (queues : Queues) (name : List ℕ) (n : ℕ) (bytes : List ℕ) → AreSoundQueues queues → rewrite_fault queues name n (length bytes) ≡ None → Keeps (with_item_at queues name n bytes) (data_of queues - unwrap_or (item_len_of queues name n) 0 + length bytes)
unfolding rewrite_fault with_item_at
rewritten_keeps queues name n bytes sound none =
    let a = no_fault _ _ _ none in
    let b = no_fault _ _ _ a.1 in
    let c = no_fault _ _ _ b.1 in
    let d = no_fault _ _ _ c.1 in
    let found = found_item queues name n c.0 in
    let old : Queue = found.queue in
    let new : Queue = record old { items = slice_set old.items (n - 1) bytes } in
    let was : IsSoundQueue old = found_meets IsSoundQueue (is_name name) queues old sound.each found.there in
    let as_many : length (slice_set old.items (n - 1) bytes) ≡ length old.items = length-set old.items (n - 1) bytes in
    let one : IsSoundQueue new = record {
      some = subst (λ m. 1 ≤ m) (sym as_many) was.some;
      few = subst (λ m. m ≤ most_items) (sym as_many) was.few;
      lengths = lengths_set old.items (n - 1) bytes (not-false _ a.0) was.lengths;
      read = subst (λ m. old.last_read ≤ m) (sym as_many) was.read;
    } in
    let from : 1 ≤ n = found.at.from in
    let to : n ≤ length old.items = found.at.to in
    let size : length (get_or old.items (n - 1) []) ≡ found.len = found.at.size in
    let sum : size_of new + length (get_or old.items (n - 1) []) ≡ size_of old + length bytes = sum_by-set length old.items (n - 1) bytes [] (omega arith) in
    let is : unwrap_or (item_len_of queues name n) 0 ≡ found.len = ap (λ o. unwrap_or o 0) found.item in
    let part : unwrap_or (item_len_of queues name n) 0 ≤ data_of queues = rewrite_facts queues name n (length bytes) sound in
    let light : data_of queues - unwrap_or (item_len_of queues name n) 0 + length bytes ≤ most_data = ltb-false _ _ d.0 in
    rw (or_empty queues name old found.there)
    (changed_keeps queues name old new sound found.there one (data_of queues - unwrap_or (item_len_of queues name n) 0 + length bytes) (omega arith) light)

-- ---- DELETEQ TS
pub deleted_keeps : (queues : Queues) (name : List ℕ) (queue : Queue) → AreSoundQueues queues → queue_of queues name ≡ Some queue → IsDistinct is_name (keys_of (remove_entry (is_name name) queues)) → Keeps (remove_entry (is_name name) queues) (data_of queues - size_of queue)
deleted_keeps queues name queue sound there apart =
    let sum = sum_by-remove_entry size_of (is_name name) queues in
    let part : unwrap_or (option_map size_of (queue_of queues name)) 0 ≡ size_of queue = ap (λ o. unwrap_or (option_map size_of o) 0) there in
    let total : data_of queues - size_of queue ≡ data_of (remove_entry (is_name name) queues) = omega arith in
    let light : data_of queues ≤ most_data = sound.light in
    let fewer : length (remove_entry (is_name name) queues) ≤ length queues = length-remove_entry (is_name name) queues in
    let few : length queues ≤ most_queues = sound.few in
    record {
      sound = record {
        distinct = apart;
        few = omega arith;
        each = each-remove_entry IsSoundQueue (is_name name) queues sound.each;
        light = omega arith;
      };
      all = total;
    }
