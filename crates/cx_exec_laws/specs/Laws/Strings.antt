-- What the definitions of decimal numbers and of MVC come to, as the module `laws` promises it.
use Rattle.std.specs.Prelude.{◌≡◌, ℕ, ◌^◌, ◌<◌, ◌≤◌, Some, is_some, true, ℤ, unsigned_abs}
use Rattle.cx_storage.specs.Storage.{Storage, span, after_write}
use Rattle.cx_storage.specs.Address.{address_after, distance}
use Rattle.cx_exec.specs.Sequence.{stored_by}
use Rattle.cx_exec.specs.Strings.{moved_byte}
use Rattle.cx_exec.specs.Decimal.{IsReadAs, decimal_bytes}

-- what CVD writes of a number, CVB reads as that number
abbrev pub DecimalReadsBack : Type 0
DecimalReadsBack = (z : ℤ) → unsigned_abs z < 10 ^ 15 → IsReadAs (decimal_bytes z) (Some z)

-- where no byte of the second operand is one of the first, MVC copies it
abbrev pub ApartIsCopied : Type 0
ApartIsCopied = (s : Storage) (a1 a2 n : ℕ) → a1 < 2 ^ 24 → a2 < 2 ^ 24 → n ≤ 2 ^ 24
    → is_some (span s a1 n) ≡ true → is_some (span s a2 n) ≡ true
    → ((k : ℕ) → k < n → n ≤ distance a1 (address_after a2 k))
    → span (after_write s a1 (stored_by (moved_byte s a1 a2) n)) a1 n ≡ span s a2 n
