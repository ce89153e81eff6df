-- What looks write of temporary storage queues (own).
use Rattle.std.specs.Prelude.{ℕ, ◌+◌, ◌*◌, ◌/◌, List, [], ◌∷◌, ◌++◌, length, map, take, drop, codes, Option, Some, None}
use Rattle.std.specs.Fmt.{decimal}
use Rattle.std.specs.List.{flat_map, range_with_len}
use Rattle.std.specs.Option.{option_map_or}
use Rattle.cx_base.specs.Digits.{digits}
use Rattle.cx_base.specs.Texts.{shown_text}
use Rattle.cx_region_bytes.specs.Rows.{hex_group, quarters}
use Rattle.cx_service.specs.Queues.{Queue, Queues, item_of, queue_of, size_of}
use Rattle.cx_look_lines.specs.Words.{in_apostrophes, look_line, or_none, written_name, Lines}

-- ---- all queues
-- a queue: its name, its items, their bytes together, the number of the item last read
abbrev pub queue_line : List ℕ × Queue → Lines
queue_line (name, queue) =
    look_line
    (codes "QUEUE" ∷ written_name name ∷ codes "ITEMS" ∷ decimal (length queue.items) ∷ codes "BYTES"
    ∷ decimal (size_of queue)
    ∷ codes "READ" ∷ decimal queue.last_read ∷ [])

unfoldable pub queues_text : Queues → Lines
queues_text queues = or_none (codes "QUEUES") (flat_map queue_line queues)

-- ---- one queue
-- an item: its number, its length, and its first 64 bytes in characters
abbrev pub item_line : ℕ → List ℕ → Lines
item_line n item =
    look_line
    (codes "ITEM" ∷ decimal n ∷ codes "LENGTH" ∷ decimal (length item) ∷ in_apostrophes (shown_text (take 64 item))
    ∷ [])

abbrev pub items_text : ℕ → List (List ℕ) → Lines
items_text n [] = []
items_text n (item ∷ items) = item_line n item ++ items_text (n + 1) items

unfoldable pub queue_text : Queues → List ℕ → Lines
queue_text queues name =
    option_map_or (λ queue. queue_line (name, queue) ++ items_text 1 queue.items) (queue_of queues name)
    (look_line (codes "QUEUE" ∷ written_name name ∷ codes "NONE" ∷ []))

-- ---- one item
-- a row of sixteen bytes, of which the last one may have fewer: its offset, its bytes in digits, and in characters
abbrev pub row_line : ℕ → List ℕ → Lines
row_line offset row =
    look_line (digits 16 4 offset ∷ map (hex_group (map Some row)) quarters ++ in_apostrophes (shown_text row) ∷ [])

-- that of a number, counted from 0
abbrev pub row_line_at : List ℕ → ℕ → Lines
row_line_at bytes k = row_line (16 * k) (take 16 (drop (16 * k) bytes))

abbrev pub item_found : List ℕ → ℕ → Option (List ℕ) → Lines
item_found name n None = look_line (codes "QUEUE" ∷ written_name name ∷ codes "ITEM" ∷ decimal n ∷ codes "NONE" ∷ [])
item_found name n (Some item) =
    look_line
    (codes "QUEUE" ∷ written_name name ∷ codes "ITEM" ∷ decimal n ∷ codes "LENGTH" ∷ decimal (length item) ∷ [])
    ++ flat_map (row_line_at item) (range_with_len 0 ((length item + 15) / 16))

unfoldable pub item_text : Queues → List ℕ → ℕ → Lines
item_text queues name n = item_found name n (item_of queues name n)
