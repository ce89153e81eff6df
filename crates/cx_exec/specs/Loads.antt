-- Loads and stores (GA22-7000, "Load", "Insert Character", "Store", "Move"). A byte of the operand absent 5; the code
-- stays, except for LTR.
-- 18 LR [RR], 58 L, 48 LH [RX]  Load, Load Halfword: the second operand goes into R1.
-- 12 LTR [RR]  Load and Test: likewise; code 0 zero, 1 less than zero, 2 greater.
-- 41 LA [RX]  Load Address: the second operand's address goes into R1.
-- 43 IC [RX]  Insert Character: the byte goes into bits 24 to 31 of R1.
-- 50 ST, 40 STH, 42 STC [RX]  Store: R1, its bits 16 to 31, 24 to 31. 92 MVI [SI]  Move: the immediate byte.
use Rattle.std.specs.Prelude.{ℕ, ◌+◌, ◌*◌, ◌/◌, ◌^◌, Option}
use Rattle.cx_storage.specs.Storage.{byte_at}
use Rattle.cx_exec.specs.declared.machine.Updated.{Updated}
use Rattle.cx_exec.specs.Machine.{Machine, reg}
use Rattle.cx_exec.specs.Outcome.{Outcome, Completes}
use Rattle.cx_exec.specs.Numbers.{signed_word, sign_code}
use Rattle.cx_exec.specs.Operands.{IfPresent}
use Rattle.cx_exec.specs.Results.{load_register, loaded_coded}

abbrev pub Loads : ℕ → Option ℕ → Updated → Machine → Outcome → Machine → Type 0
Loads r second updated m outcome after =
    IfPresent second m outcome after (λ word. Completes outcome after (load_register r word updated m))

abbrev pub load_and_test : ℕ → ℕ → Updated → Machine → Machine
load_and_test r word updated m = loaded_coded r word (sign_code (signed_word word)) updated m

-- a word with its low byte, bits 24 to 31, changed
abbrev pub insert_byte : ℕ → ℕ → ℕ
insert_byte word byte = (word / 2 ^ 8) * 2 ^ 8 + byte

abbrev pub Inserts : ℕ → ℕ → Updated → Machine → Outcome → Machine → Type 0
Inserts r a updated m outcome after =
    IfPresent (byte_at m.storage a) m outcome after
    (λ byte. Completes outcome after (load_register r (insert_byte (reg m r) byte) updated m))
