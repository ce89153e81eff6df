-- The lines of items, one more.
use Rattle.std.proofs.Common.{◌≡◌, ℕ, zero, suc, ◌+◌, ◌<◌, ◌≤◌, Bool, true, false, cond, Some, None, List, [], ◌∷◌, ◌++◌, drop, length, slice_get, unwrap_or, refl, subst, ap, ◌∙◌, add-one, arith}
use Rattle.std.proofs.lemmas.List.{append_assoc}
use Rattle.std.proofs.lemmas.Bool.Decides.{nat_tests}
use Rattle.std.specs.Option.{option_map}
use Rattle.std.proofs.lemmas.Option.{none-some, same_Some}
use Rattle.std.specs.List.{AllByRecursion}
use Rattle.cx_base.specs.Facts.Tables.{found_meets}
use Rattle.cx_ebcdic.specs.Names.{is_name}
use Rattle.cx_service.specs.Queues.{Queue, Queues, item_numbered, queue_of, is_item_length, IsSoundQueue, AreSoundQueues}
use Rattle.cx_look_tables.specs.Queues.{item_line, items_text}
use Rattle.cx_look_lines.specs.Words.{Lines}

item_there : (n i : ℕ) (items : List (List ℕ)) → i < length items → unwrap_or (option_map (item_line n) (slice_get items i)) [] ++ items_text (n + 1) (drop (suc i) items) ≡ items_text n (drop i items)
item_there n i [] h = absurd (omega (arith, h))
item_there n zero (item ∷ items) h = refl
item_there n (suc i) (item ∷ items) h = item_there n i items (omega (arith, h))

numbered_next : (queue : Queue) (i : ℕ) → item_numbered (i + 1) queue ≡ slice_get queue.items i
numbered_next queue i = grind (arith, nat_tests)

pub next_item : (queue : Queue) (i : ℕ) → i < length queue.items → unwrap_or (option_map (item_line (i + 1)) (item_numbered (i + 1) queue)) [] ++ items_text (i + 1 + 1) (drop (i + 1) queue.items) ≡ items_text (i + 1) (drop i queue.items)
next_item queue i h = rw (numbered_next queue i) (rw add-one (item_there (suc i) i queue.items h))

-- a text with the line of one more item, and the lines that are left
pub one_more : (queue : Queue) (i : ℕ) (before after all : Lines) → i < length queue.items → after ≡ before ++ unwrap_or (option_map (item_line (i + 1)) (item_numbered (i + 1) queue)) [] → before ++ items_text (i + 1) (drop i queue.items) ≡ all → after ++ items_text (i + 1 + 1) (drop (i + 1) queue.items) ≡ all
one_more queue i before after all h added left =
    ap (λ text. text ++ items_text (i + 1 + 1) (drop (i + 1) queue.items)) added
    ∙ append_assoc before _ _
    ∙ ap (λ rest. before ++ rest) (next_item queue i h)
    ∙ left

-- an item of a queue has at most 32,767 bytes
fits : (n : ℕ) → is_item_length n ≡ true → n ≤ 32767
fits n h = grind (arith, nat_tests)

item_fits : (items : List (List ℕ)) (k : ℕ) (item : List ℕ) → AllByRecursion (λ i. is_item_length (length i) ≡ true) items → slice_get items k ≡ Some item → length item ≤ 32767
item_fits [] k item all e = absurd (none-some item e)
item_fits (one ∷ items) zero item all e = let P : List ℕ → Type 0 = λ i. length i ≤ 32767 in subst P (same_Some _ _ e) (fits (length one) all.0)
item_fits (one ∷ items) (suc k) item all e = item_fits items k item all.1 e

numbered_fits : (items : List (List ℕ)) (b : Bool) (k : ℕ) (item : List ℕ) → AllByRecursion (λ i. is_item_length (length i) ≡ true) items → cond b None (slice_get items k) ≡ Some item → length item ≤ 32767
numbered_fits items true k item all e = absurd (none-some item e)
numbered_fits items false k item all e = item_fits items k item all e

pub few_bytes : (queues : Queues) (name : List ℕ) (n : ℕ) (queue : Queue) (item : List ℕ) → AreSoundQueues queues → queue_of queues name ≡ Some queue → item_numbered n queue ≡ Some item → length item ≤ 32767
few_bytes queues name n queue item sound there e =
    numbered_fits queue.items _ _ item (found_meets IsSoundQueue (is_name name) queues queue sound.each there).lengths e
