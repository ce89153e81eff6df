-- 98 LM, 90 STM [RS]  Load Multiple, Store Multiple (GA22-7000): from R1 through R3, register 0 following register 15.
-- A byte of the operand absent 5; the code stays.
use Rattle.std.specs.Prelude.{ℕ, zero, suc, ◌+◌, ◌-◌, ◌*◌, ◌%◌, List, [], ◌∷◌, ◌++◌, Option, Some, option_and_then, option_map, map, slice_index, nat_le, if◌then◌else◌}
use Rattle.std.specs.List.{range_with_len}
use Rattle.cx_storage.specs.Storage.{Storage}
use Rattle.cx_storage.specs.Address.{address_after}
use Rattle.cx_storage.specs.Word.{word_at}
use Rattle.cx_exec.specs.declared.machine.Updated.{Updated}
use Rattle.cx_exec.specs.Machine.{Machine}
use Rattle.cx_exec.specs.Outcome.{Outcome, Completes}
use Rattle.cx_exec.specs.Operands.{IfPresent, Stores}
use Rattle.byteorder.specs.Endian.{big_bytes}

-- how many registers after the first one a given one comes
abbrev pub place_after : ℕ → ℕ → ℕ
place_after first r = (r + (16 - first)) % 16

-- how many registers there are from the first through the last one
abbrev pub register_count : ℕ → ℕ → ℕ
register_count first last = place_after first last + 1

-- n words in a row, the k-th at the place 4k on from an address, where each is present
unfoldable pub words_at : Storage → ℕ → ℕ → Option (List ℕ)
words_at s a zero = Some []
words_at s a (suc n) =
    option_and_then (λ words. option_map (λ word. words ++ word ∷ []) (word_at s (address_after a (4 * n))))
    (words_at s a n)

-- a register after the words were loaded: its word if it is among those from the first through the last, else what it
-- held
abbrev pub loaded_register : List ℕ → ℕ → ℕ → List ℕ → ℕ → ℕ
loaded_register regs first last words r =
    if nat_le (place_after first r) (place_after first last) then slice_index words (place_after first r)
    else slice_index regs r

unfoldable pub loaded_registers : List ℕ → ℕ → ℕ → List ℕ → List ℕ
loaded_registers regs first last words = map (loaded_register regs first last words) (range_with_len 0 16)

-- the bytes of n registers, one word after the other
unfoldable pub register_bytes : List ℕ → ℕ → ℕ → List ℕ
register_bytes regs first zero = []
register_bytes regs first (suc n) = register_bytes regs first n ++ big_bytes 4 (slice_index regs ((first + n) % 16))

abbrev pub StoresRegisters : ℕ → ℕ → ℕ → Updated → Machine → Outcome → Machine → Type 0
StoresRegisters first last a updated m outcome after =
    Stores a (register_bytes m.regs first (register_count first last)) m.cc updated m outcome after

unfoldable pub LoadsRegisters : ℕ → ℕ → ℕ → Updated → Machine → Outcome → Machine → Type 0
LoadsRegisters first last a updated m outcome after =
    IfPresent (words_at m.storage a (register_count first last)) m outcome after
    (λ words. Completes outcome after
    (record m { regs = loaded_registers m.regs first last words; next = updated.address }))
