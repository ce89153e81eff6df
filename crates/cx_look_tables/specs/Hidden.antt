-- What looks show of bytes in characters, once more in digits, where other bytes would show alike: so a block of ORDERS
-- or CHOICES tells them apart (own).
use Rattle.std.specs.Prelude.{ℕ, ◌+◌, ◌==◌, ◌&&◌, Bool, true, false, nat_le, if◌then◌else◌, List, [], ◌∷◌, ◌++◌, codes, length}
use Rattle.std.specs.List.{flat_map, list_all, range_with_len}
use Rattle.std.specs.Option.{option_map, option_map_or}
use Rattle.cx_ebcdic.specs.Characters.{code_of, shown_as}
use Rattle.cx_base.specs.Digits.{digits}
use Rattle.cx_region.specs.State.{RegionState}
use Rattle.cx_region.specs.Tables.{terminal_of}
use Rattle.cx_service.specs.Queues.{Queues, count_of, item_of}
use Rattle.cx_look_lines.specs.Words.{in_hexadecimal, look_line, Lines}
use Rattle.cx_look_tables.specs.Queues.{item_text}

-- a byte that is the code of the character by which it is shown: no other byte with a character of its own is shown so
abbrev pub has_character : ℕ → Bool
has_character b = option_map_or (λ code. code == b) (code_of (shown_as b)) false

abbrev pub have_characters : List ℕ → Bool
have_characters bytes = list_all has_character bytes

-- ---- a queue
-- an item that its line shows whole: at most 64 bytes, each with a character
abbrev pub is_shown_whole : List ℕ → Bool
is_shown_whole item = nat_le (length item) 64 && have_characters item

-- any other item, as a whole
abbrev pub hidden_item : Queues → List ℕ → ℕ → Lines
hidden_item queues name n =
    if option_map_or is_shown_whole (item_of queues name n) true then [] else item_text queues name n

unfoldable pub hidden_items : Queues → List ℕ → Lines
hidden_items queues name =
    flat_map (λ k. hidden_item queues name (k + 1)) (range_with_len 0 (option_map_or (λ n. n) (count_of queues name) 0))

-- ---- a screen
-- a row of which some byte has no character: its number, and its bytes in digits
abbrev pub hidden_row : ℕ → List ℕ → Lines
hidden_row n row =
    if have_characters row then [] else look_line (codes "ROW" ∷ digits 10 2 n ∷ in_hexadecimal row ∷ [])

abbrev pub hidden_rows_from : ℕ → List (List ℕ) → Lines
hidden_rows_from n [] = []
hidden_rows_from n (row ∷ rows) = hidden_row n row ++ hidden_rows_from (n + 1) rows

unfoldable pub hidden_rows : RegionState → List ℕ → Lines
hidden_rows region name =
    option_map_or (hidden_rows_from 1) (option_map (λ terminal. terminal.entry.screen) (terminal_of region name)) []
