-- F2 PACK  Pack, F3 UNPK  Unpack [SS, two lengths] (GA22-7000): a byte of an operand absent 5; the code stays. Both go
-- from right to left, so places are counted from the right, and an operand is named by the address of its last byte.
-- That each source byte is fetched just before the bytes made of it are stored is this product's own.
use Rattle.std.specs.Prelude.{ℕ, ◌+◌, ◌-◌, ◌*◌, ◌/◌, ◌%◌, ◌^◌, List, take, reverse, ◌==◌, nat_lt, if◌then◌else◌}
use Rattle.cx_storage.specs.Storage.{Storage, span}
use Rattle.cx_storage.specs.Address.{address_after, distance}
use Rattle.cx_exec.specs.declared.machine.Updated.{Updated}
use Rattle.cx_exec.specs.Machine.{Machine}
use Rattle.cx_exec.specs.Outcome.{Outcome}
use Rattle.cx_exec.specs.Operands.{IfPresent, Stores}
use Rattle.cx_exec.specs.Sequence.{byte_seen, stored_by}

-- k bytes before an address; before the address 0 comes 2^24 - 1
abbrev pub address_before : ℕ → ℕ → ℕ
address_before a k = address_after a (2 ^ 24 - k)

-- the i-th byte of the source, of n2 bytes, once some bytes before e1 are stored; a missing one is zero
unfoldable pub source : Storage → ℕ → ℕ → ℕ → List ℕ → ℕ → ℕ
source s e1 n2 e2 stored i =
    if nat_lt i n2 then byte_seen s stored (distance (address_before e2 i) e1) (address_before e2 i) else 0

-- the halves of a byte exchanged
abbrev pub swap_halves : ℕ → ℕ
swap_halves byte = byte % 16 * 16 + byte / 16

-- PACK: the right halves of two source bytes; the rightmost byte's halves are exchanged
unfoldable pub packed_byte : Storage → ℕ → ℕ → ℕ → List ℕ → ℕ → ℕ
packed_byte s e1 n2 e2 stored k =
    if k == 0 then swap_halves (source s e1 n2 e2 stored 0)
    else source s e1 n2 e2 stored (2 * k) % 16 * 16 + source s e1 n2 e2 stored (2 * k - 1) % 16

-- UNPK: a source byte, once fetched, makes two bytes, its right half first: how many are stored when it is fetched
abbrev pub fetched_at : ℕ → ℕ
fetched_at k = if k % 2 == 0 then k - 1 else k

-- a half with the zone F; the rightmost byte's halves are exchanged
abbrev pub unpacked_half : ℕ → ℕ → ℕ
unpacked_half k byte = if k == 0 then swap_halves byte else (if k % 2 == 0 then 0xF0 + byte / 16 else 0xF0 + byte % 16)

unfoldable pub unpacked_byte : Storage → ℕ → ℕ → ℕ → List ℕ → ℕ → ℕ
unpacked_byte s e1 n2 e2 stored k = unpacked_half k (source s e1 n2 e2 (take (fetched_at k) stored) ((k + 1) / 2))

unfoldable pub PackEffect : ℕ → ℕ → ℕ → ℕ → Updated → Machine → Outcome → Machine → Type 0
PackEffect n1 n2 a1 a2 updated m outcome after =
    IfPresent (span m.storage a2 n2) m outcome after
    (λ _. Stores a1
    (reverse (stored_by (packed_byte m.storage (address_after a1 (n1 - 1)) n2 (address_after a2 (n2 - 1))) n1)) m.cc
    updated m outcome after)

unfoldable pub UnpkEffect : ℕ → ℕ → ℕ → ℕ → Updated → Machine → Outcome → Machine → Type 0
UnpkEffect n1 n2 a1 a2 updated m outcome after =
    IfPresent (span m.storage a2 n2) m outcome after
    (λ _. Stores a1
    (reverse (stored_by (unpacked_byte m.storage (address_after a1 (n1 - 1)) n2 (address_after a2 (n2 - 1))) n1))
    m.cc updated m outcome after)
