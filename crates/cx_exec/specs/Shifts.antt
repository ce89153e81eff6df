-- Shifts (GA22-7000, "Shift Left Single", "Shift Right Double" and the others): by the low six bits of the second
-- operand's address; the R3 field is ignored.
-- 88 SRL, 89 SLL [RS]: R1 as a number without a sign; the code stays.
-- 8A SRA, 8B SLA [RS]: R1 as a signed number; code 0 zero, 1 less than zero, 2 greater, 3 overflow of SLA.
-- 8E SRDA [RS]: the pair of R1 as a signed number; odd R1 6; code 0, 1, 2.
use Rattle.std.specs.Prelude.{ℕ, ◌+◌, ◌*◌, ◌/◌, ◌%◌, ◌^◌, ℤ, pos, ◌*ℤ◌, unsigned_abs}
use Rattle.std.specs.Int.{int_rem_euclid, int_shr}
use Rattle.cx_exec.specs.declared.machine.Updated.{Updated}
use Rattle.cx_exec.specs.Machine.{Machine, reg}
use Rattle.cx_exec.specs.Outcome.{Outcome, Completes}
use Rattle.cx_exec.specs.Numbers.{signed_word, signed_double, double_of, word_of, sign_code, sum_code}
use Rattle.cx_exec.specs.Operands.{IfEven}
use Rattle.cx_exec.specs.Results.{loaded_coded, pair, pair_coded}

-- the amount of a shift: the low six bits of the second operand's address
abbrev pub amount : ℕ → ℕ
amount a = a % 64

-- a word shifted by n bits, zeros filled in
abbrev pub shifted_right : ℕ → ℕ → ℕ
shifted_right word n = word / 2 ^ n

abbrev pub shifted_left : ℕ → ℕ → ℕ
shifted_left word n = (word * 2 ^ n) % 2 ^ 32

-- a signed number shifted right by n bits: the greatest whole number not above x / 2^n
abbrev pub floor_shifted : ℤ → ℕ → ℤ
floor_shifted x n = int_shr x n

-- a word's number times 2^n
abbrev pub times_power : ℕ → ℕ → ℤ
times_power word n = signed_word word *ℤ pos (2 ^ n)

-- a word shifted left by n bits except its sign bit, which stays: the other 31 bits are the number times 2^n
abbrev pub shifted_arithmetic : ℕ → ℕ → ℕ
shifted_arithmetic word n = (word / 2 ^ 31) * 2 ^ 31 + unsigned_abs (int_rem_euclid (times_power word n) (pos (2 ^ 31)))

abbrev pub right_arithmetic : ℕ → ℕ → Updated → Machine → Machine
right_arithmetic r n updated m =
    loaded_coded r (word_of (floor_shifted (signed_word (reg m r)) n))
    (sign_code (floor_shifted (signed_word (reg m r)) n)) updated m

abbrev pub left_arithmetic : ℕ → ℕ → Updated → Machine → Machine
left_arithmetic r n updated m =
    loaded_coded r (shifted_arithmetic (reg m r) n) (sum_code (times_power (reg m r) n)) updated m

abbrev pub shifted_pair : Machine → ℕ → ℕ → ℤ
shifted_pair m r n = floor_shifted (signed_double (pair m.regs r)) n

abbrev pub ShiftsPair : ℕ → ℕ → Updated → Machine → Outcome → Machine → Type 0
ShiftsPair r n updated m outcome after =
    IfEven r m outcome after
    (Completes outcome after (pair_coded r (double_of (shifted_pair m r n)) (sign_code (shifted_pair m r n)) updated m))
