-- BE STCM  Store Characters under Mask, BF ICM  Insert Characters under Mask [RS] (GA22-7000): the bytes of a register
-- whose bits of the mask are one, from left to right, and as many bytes of storage in a row. A byte of them absent 5.
-- STCM leaves the code; ICM: 0 all bits inserted zero or none inserted, else by the first of them 1 one, 2 zero.
use Rattle.std.specs.Prelude.{ℕ, ◌-◌, ◌*◌, ◌/◌, ◌%◌, ◌^◌, Bool, ◌==◌, List, length, map, nat_le, slice_index, if◌then◌else◌}
use Rattle.std.specs.List.{filter, range_with_len}
use Rattle.cx_storage.specs.Storage.{span}
use Rattle.cx_exec.specs.Numbers.{number_of}
use Rattle.cx_exec.specs.declared.machine.Updated.{Updated}
use Rattle.cx_exec.specs.Machine.{Machine, reg}
use Rattle.cx_exec.specs.Outcome.{Outcome, Completes}
use Rattle.cx_exec.specs.Operands.{IfPresent, Stores}
use Rattle.cx_exec.specs.Results.{loaded_coded}

-- the k-th byte of a word, the leftmost first
abbrev pub byte_of : ℕ → ℕ → ℕ
byte_of word k = word / 2 ^ (8 * (3 - k)) % 256

-- the places below n whose bits of the mask are one
abbrev pub mask_selects : ℕ → ℕ → Bool
mask_selects mask k = mask / 2 ^ (3 - k) % 2 == 1

unfoldable pub selected_bytes : ℕ → ℕ → List ℕ
selected_bytes mask n = filter (mask_selects mask) (range_with_len 0 n)

-- STCM: the bytes at the places chosen
unfoldable pub StcmEffect : ℕ → ℕ → ℕ → Updated → Machine → Outcome → Machine → Type 0
StcmEffect r1 mask a updated m outcome after =
    Stores a (map (byte_of (reg m r1)) (selected_bytes mask 4)) m.cc updated m outcome after

-- ICM: the byte at a place that is the i-th one chosen is the i-th of the bytes; the others stay
abbrev pub inserted_byte : ℕ → ℕ → List ℕ → ℕ → ℕ
inserted_byte mask word bytes k =
    if mask_selects mask k then slice_index bytes (length (selected_bytes mask k)) else byte_of word k

unfoldable pub word_inserted : ℕ → ℕ → List ℕ → ℕ
word_inserted mask word bytes = number_of (map (inserted_byte mask word bytes) (range_with_len 0 4))

unfoldable pub insert_code : List ℕ → ℕ
insert_code bytes = if number_of bytes == 0 then 0 else (if nat_le 128 (slice_index bytes 0) then 1 else 2)

unfoldable pub IcmEffect : ℕ → ℕ → ℕ → Updated → Machine → Outcome → Machine → Type 0
IcmEffect r1 mask a updated m outcome after =
    IfPresent (span m.storage a (length (selected_bytes mask 4))) m outcome after
    (λ bytes. Completes outcome after
    (loaded_coded r1 (word_inserted mask (reg m r1) bytes) (insert_code bytes) updated m))
