-- What the definitions of rows with lengths and of masks come to, as the module `laws` promises it.
use Rattle.std.specs.Prelude.{◌≡◌, ◌≢◌, ℕ, ◌^◌, ◌<◌, ◌≤◌, Some, List, length, take, map, slice_index, bit_xor}
use Rattle.byteorder.specs.Endian.{big_bytes}
use Rattle.cx_storage.specs.Storage.{Storage, span}
use Rattle.cx_storage.specs.Address.{address_after}
use Rattle.cx_exec.specs.Sequence.{stored_by}
use Rattle.cx_exec.specs.Strings.{moved_byte, xored_byte}
use Rattle.cx_exec.specs.Masks.{byte_of, selected_bytes}

-- n bytes are stored, and each is what the rule makes of those before it
abbrev pub EachIsStored : Type 0
EachIsStored = (rule : List ℕ → ℕ → ℕ) (n k : ℕ) → k < n
    → (length (stored_by rule n) ≡ n) × (slice_index (stored_by rule n) k ≡ rule (take k (stored_by rule n)) k)

-- where the first operand doesn't begin inside the second after its first byte, MVC stores the bytes that were in the
-- second before, and XC each byte of the first joined with the one of the second that was there before
abbrev pub OutsideIsMoved : Type 0
OutsideIsMoved = (s : Storage) (a1 a2 n : ℕ) (second : List ℕ) → a1 < 2 ^ 24 → a2 < 2 ^ 24 → n ≤ 2 ^ 24
    → ((j : ℕ) → 0 < j → j < n → a1 ≢ address_after a2 j) → span s a2 n ≡ Some second
    → stored_by (moved_byte s a1 a2) n ≡ second

-- so XC joins each byte of the first with the one of the second that was there before
abbrev pub OutsideIsJoined : Type 0
OutsideIsJoined = (s : Storage) (a1 a2 n k : ℕ) (first second : List ℕ) → a1 < 2 ^ 24 → a2 < 2 ^ 24 → n ≤ 2 ^ 24
    → ((j : ℕ) → 0 < j → j < n → a1 ≢ address_after a2 j) → span s a1 n ≡ Some first → span s a2 n ≡ Some second → k < n
    → slice_index (stored_by (xored_byte s a1 a2) n) k ≡ bit_xor (slice_index first k) (slice_index second k)

-- a mask of four ones takes the whole word
abbrev pub AllIsTaken : Type 0
AllIsTaken = (word : ℕ) → word < 2 ^ 32 → map (byte_of word) (selected_bytes 0xF 4) ≡ big_bytes 4 word
