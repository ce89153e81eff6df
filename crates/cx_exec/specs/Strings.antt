-- D2 MVC  Move, D7 XC  Exclusive Or [SS] (GA22-7000): strings of n bytes, at a1 and a2, from left to right. A byte of
-- an operand absent 5. MVC leaves the code; XC: 0 zero, 1 not zero.
use Rattle.std.specs.Prelude.{ℕ, List, bit_xor}
use Rattle.cx_storage.specs.Storage.{Storage, span}
use Rattle.cx_storage.specs.Address.{address_after, distance}
use Rattle.cx_exec.specs.Numbers.{number_of}
use Rattle.cx_exec.specs.declared.machine.Updated.{Updated}
use Rattle.cx_exec.specs.Machine.{Machine}
use Rattle.cx_exec.specs.Outcome.{Outcome}
use Rattle.cx_exec.specs.Operands.{IfPresent}
use Rattle.cx_exec.specs.Logic.{logical_code}
use Rattle.cx_exec.specs.Operands.{Stores}
use Rattle.cx_exec.specs.Sequence.{content_at, byte_seen, stored_by}

-- the byte of the second operand
unfoldable pub moved_byte : Storage → ℕ → ℕ → List ℕ → ℕ → ℕ
moved_byte s a1 a2 stored k = byte_seen s stored (distance a1 (address_after a2 k)) (address_after a2 k)

-- the first operand's byte, which isn't stored yet, joined by exclusive or with the byte of the second
unfoldable pub xored_byte : Storage → ℕ → ℕ → List ℕ → ℕ → ℕ
xored_byte s a1 a2 stored k =
    bit_xor (content_at s (address_after a1 k))
    (byte_seen s stored (distance a1 (address_after a2 k)) (address_after a2 k))

unfoldable pub MvcEffect : ℕ → ℕ → ℕ → Updated → Machine → Outcome → Machine → Type 0
MvcEffect n a1 a2 updated m outcome after =
    IfPresent (span m.storage a2 n) m outcome after
    (λ _. Stores a1 (stored_by (moved_byte m.storage a1 a2) n) m.cc updated m outcome after)

unfoldable pub XcEffect : ℕ → ℕ → ℕ → Updated → Machine → Outcome → Machine → Type 0
XcEffect n a1 a2 updated m outcome after =
    IfPresent (span m.storage a2 n) m outcome after
    (λ _.
    let new = stored_by (xored_byte m.storage a1 a2) n in
    Stores a1 new (logical_code (number_of new)) updated m outcome after)
