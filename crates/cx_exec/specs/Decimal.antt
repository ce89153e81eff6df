-- 4F CVB  Convert to Binary, 4E CVD  Convert to Decimal [RX] (GA22-7000): 8 bytes with 15 decimal digits and a sign, a
-- half byte each. A byte absent 5; CVB: an invalid digit or sign 7, a number that no word holds 9. The code stays.
use Rattle.std.specs.Prelude.{◌≡◌, ℕ, zero, suc, ◌+◌, ◌*◌, ◌/◌, ◌%◌, ◌^◌, ◌<◌, ◌≤◌, Bool, ◌||◌, ◌==◌, List, [], ◌∷◌, Err, Option, Some, None, slice_index, slice_set, ℤ, pos, neg_ℤ, int_lt, unsigned_abs, MatchBool, MatchOption, if◌then◌else◌}
use Rattle.cx_storage.specs.Storage.{span}
use Rattle.cx_exec.specs.declared.machine.Interruption.TheVariants as interruption
use Rattle.cx_exec.specs.declared.machine.Updated.{Updated}
use Rattle.cx_exec.specs.Machine.{Machine, reg}
use Rattle.cx_exec.specs.Outcome.{Outcome, Completes, IsSuppressed}
use Rattle.cx_exec.specs.Operands.{IfPresent, Stores}
use Rattle.cx_exec.specs.Numbers.{signed_word, word_of, fits_word}

-- the i-th half byte from the left
abbrev pub half : List ℕ → ℕ → ℕ
half bytes i = if i % 2 == 0 then slice_index bytes (i / 2) / 16 else slice_index bytes (i / 2) % 16

-- the digits are below 10, and the sign, the last half, isn't
abbrev pub AreDigits : List ℕ → Type 0
AreDigits bytes = (i : ℕ) → i < 15 → half bytes i < 10

unfoldable pub IsDecimal : List ℕ → Type 0
IsDecimal bytes = AreDigits bytes × (10 ≤ half bytes 15)

-- the number that the first digits make
unfoldable pub first_digits : List ℕ → ℕ → ℕ
first_digits bytes zero = 0
first_digits bytes (suc i) = 10 * first_digits bytes i + half bytes i

-- the signs B and D are minus, the others plus
abbrev pub is_minus : ℕ → Bool
is_minus sign = sign == 0xB || sign == 0xD

abbrev pub decimal_number : List ℕ → ℤ
decimal_number bytes =
    if is_minus (half bytes 15) then neg_ℤ (pos (first_digits bytes 15)) else pos (first_digits bytes 15)

-- the bytes' number, where digits and sign are valid
unfoldable pub IsReadAs : List ℕ → Option ℤ → Type 0
IsReadAs bytes None = IsDecimal bytes → ⊥
IsReadAs bytes (Some number) = IsDecimal bytes × (number ≡ decimal_number bytes)

-- the register gets the number modulo 2^32; where no word holds the number, divide is the interruption then, and
-- the next address stays
unfoldable pub Converts : ℕ → ℤ → Updated → Machine → Outcome → Machine → Type 0
Converts r1 number updated m outcome after =
    MatchBool (fits_word number)
    (Completes outcome after (record m { regs = slice_set m.regs r1 (word_of number); next = updated.address }))
    ((outcome ≡ Err interruption.FixedPointDivide) × (after ≡ record m { regs = slice_set m.regs r1 (word_of number) }))

-- CVB: an invalid digit or sign is the interruption data
unfoldable pub CvbEffect : ℕ → ℕ → Updated → Machine → Outcome → Machine → Type 0
CvbEffect r1 a updated m outcome after =
    IfPresent (span m.storage a 8) m outcome after
    (λ bytes.
    (number : Option ℤ) × IsReadAs bytes number
    × MatchOption number (IsSuppressed interruption.Data m outcome after) (λ z. Converts r1 z updated m outcome after))

-- the digit of a number that counts powers 10^j, and the byte of two digits
abbrev pub digit : ℕ → ℕ → ℕ
digit n j = n / 10 ^ j % 10

abbrev pub digit_pair : ℕ → ℕ → ℕ
digit_pair n j = 16 * digit n (j + 1) + digit n j

-- a number's 15 digits and its sign: D for minus, else C
unfoldable pub decimal_bytes : ℤ → List ℕ
decimal_bytes z =
    let n = unsigned_abs z in
    digit_pair n 13 ∷ digit_pair n 11 ∷ digit_pair n 9 ∷ digit_pair n 7 ∷ digit_pair n 5 ∷ digit_pair n 3
    ∷ digit_pair n 1
    ∷ (16 * digit n 0 + (if int_lt z (pos 0) then 0xD else 0xC)) ∷ []

-- CVD: the register as a signed number
unfoldable pub CvdEffect : ℕ → ℕ → Updated → Machine → Outcome → Machine → Type 0
CvdEffect r1 a updated m outcome after = Stores a (decimal_bytes (signed_word (reg m r1))) m.cc updated m outcome after
