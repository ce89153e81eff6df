-- Logic (GA22-7000, "And", "Or", "Exclusive Or", "Test under Mask"). A byte of the operand absent 5. Those of
-- format SS are with the strings.
-- 17 XR [RR], 94 NI, 96 OI [SI]: R1, or the byte, joined with the second operand; code 0 zero, 1 not zero.
-- 91 TM [SI]  Test under Mask: code 0 all selected bits zero or none selected, 1 mixed, 3 all one.
use Rattle.std.specs.Prelude.{ℕ, [], ◌∷◌, ◌==◌, bit_and, bit_or, bit_xor, if◌then◌else◌}
use Rattle.cx_storage.specs.Storage.{byte_at}
use Rattle.cx_exec.specs.declared.machine.Updated.{Updated}
use Rattle.cx_exec.specs.Machine.{Machine, reg}
use Rattle.cx_exec.specs.Outcome.{Outcome, Completes}
use Rattle.cx_exec.specs.Operands.{IfPresent, Stores}
use Rattle.cx_exec.specs.Results.{set_code, loaded_coded}

-- the code of a logical result
abbrev pub logical_code : ℕ → ℕ
logical_code result = if result == 0 then 0 else 1

abbrev pub xored_register : ℕ → ℕ → Updated → Machine → Machine
xored_register r word updated m =
    loaded_coded r (bit_xor (reg m r) word) (logical_code (bit_xor (reg m r) word)) updated m

abbrev pub StoresLogical : ℕ → ℕ → Updated → Machine → Outcome → Machine → Type 0
StoresLogical a byte updated m outcome after = Stores a (byte ∷ []) (logical_code byte) updated m outcome after

abbrev pub AndsByte : ℕ → ℕ → Updated → Machine → Outcome → Machine → Type 0
AndsByte i2 a updated m outcome after =
    IfPresent (byte_at m.storage a) m outcome after (λ byte. StoresLogical a (bit_and byte i2) updated m outcome after)

abbrev pub OrsByte : ℕ → ℕ → Updated → Machine → Outcome → Machine → Type 0
OrsByte i2 a updated m outcome after =
    IfPresent (byte_at m.storage a) m outcome after (λ byte. StoresLogical a (bit_or byte i2) updated m outcome after)

abbrev pub test_code : ℕ → ℕ → ℕ
test_code mask byte = if bit_and byte mask == 0 then 0 else (if bit_and byte mask == mask then 3 else 1)

abbrev pub TestsByte : ℕ → ℕ → Updated → Machine → Outcome → Machine → Type 0
TestsByte mask a updated m outcome after =
    IfPresent (byte_at m.storage a) m outcome after
    (λ byte. Completes outcome after (set_code (test_code mask byte) updated m))
