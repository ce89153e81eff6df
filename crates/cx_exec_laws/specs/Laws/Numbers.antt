-- What the definitions of numbers, pairs, shifts and several registers come to, as the module `laws` promises it.
use Rattle.std.specs.Prelude.{◌≡◌, ℕ, ◌+◌, ◌*◌, ◌%◌, ◌^◌, ◌<◌, true, Some, List, length, take, drop, slice_index, ℤ, pos, ◌*ℤ◌, ◌≤ℤ◌}
use Rattle.cx_storage.specs.Storage.{Storage}
use Rattle.cx_storage.specs.Address.{address_after}
use Rattle.cx_storage.specs.Word.{word_at}
use Rattle.byteorder.specs.Endian.{big_bytes}
use Rattle.cx_exec.specs.Numbers.{signed_word, word_of, signed_double, double_of, fits_word}
use Rattle.cx_exec.specs.Results.{pair, with_pair}
use Rattle.cx_exec.specs.Shifts.{floor_shifted, times_power, shifted_arithmetic}
use Rattle.cx_exec.specs.Registers.{register_count, words_at, loaded_registers, register_bytes}

-- a result that a word holds is read from its word again
abbrev pub ResultIsExact : Type 0
ResultIsExact = (x : ℤ) → fits_word x ≡ true → signed_word (word_of x) ≡ x

-- the pair that a multiplication leaves is read as the exact product
abbrev pub ProductIsExact : Type 0
ProductIsExact = (regs : List ℕ) (r first second : ℕ) → r + 1 < length regs → first < 2 ^ 32 → second < 2 ^ 32
    → signed_double (pair (with_pair regs r (double_of (signed_word first *ℤ signed_word second))) r)
    ≡ signed_word first *ℤ signed_word second

-- a number shifted right is the greatest whole number not above x / 2^n
abbrev pub ShiftedIsFloor : Type 0
ShiftedIsFloor =
    (x : ℤ) (n : ℕ)
    → ((floor_shifted x n *ℤ pos (2 ^ n)) ≤ℤ x) × ((k : ℤ) → (k *ℤ pos (2 ^ n)) ≤ℤ x → k ≤ℤ floor_shifted x n)

-- a word shifted left holds its exact number, where a word holds that
abbrev pub ShiftedIsExact : Type 0
ShiftedIsExact =
    (word n : ℕ) → word < 2 ^ 32 → fits_word (times_power word n) ≡ true
    → signed_word (shifted_arithmetic word n) ≡ times_power word n

-- the word at place k after a store is that of the register k places after the first one, 0 following 15
abbrev pub StoredWords : Type 0
StoredWords = (regs : List ℕ) (first n k : ℕ) → k < n
    → take 4 (drop (4 * k) (register_bytes regs first n)) ≡ big_bytes 4 (slice_index regs ((first + k) % 16))

-- the register k places after the first one is loaded from the word at the place 4k on
abbrev pub LoadedWords : Type 0
LoadedWords =
    (s : Storage) (a : ℕ) (regs words : List ℕ) (first last k : ℕ) → first < 16 → k < register_count first last
    → words_at s a (register_count first last) ≡ Some words
    → word_at s (address_after a (4 * k))
    ≡ Some (slice_index (loaded_registers regs first last words) ((first + k) % 16))
