-- DC TR  Translate, DD TRT  Translate and Test [SS] (GA22-7000): n argument bytes from a1 on, left to right, and a
-- table at a2. A byte of the argument absent 5, and so a byte of the table that the rule reads. TR leaves the code;
-- TRT: 0 no byte found, 1 one before the last place, 2 one at the last.
use Rattle.std.specs.Prelude.{◌≡◌, ℕ, ◌+◌, ◌*◌, ◌/◌, ◌^◌, ◌<◌, ◌==◌, Bool, true, not, List, Ok, Err, Option, Some, None, is_some, find, slice_set, option_and_then, unwrap_or, if◌then◌else◌}
use Rattle.std.specs.List.{range_with_len}
use Rattle.cx_storage.specs.Storage.{Storage, byte_at, span, after_write}
use Rattle.cx_storage.specs.Address.{address_after, distance}
use Rattle.cx_exec.specs.declared.machine.Interruption.TheVariants as interruption
use Rattle.cx_exec.specs.declared.machine.Updated.{Updated}
use Rattle.cx_exec.specs.Machine.{Machine, reg}
use Rattle.cx_exec.specs.Outcome.{Outcome, Completes}
use Rattle.cx_exec.specs.Operands.{IfPresent}
use Rattle.cx_exec.specs.Loads.{insert_byte}
use Rattle.cx_exec.specs.Results.{set_code}
use Rattle.cx_exec.specs.Sequence.{content_at, byte_seen, stored_by}

-- the table's byte for the k-th argument byte: the one whose address is the table's plus the argument byte
abbrev pub table_byte : Storage → ℕ → ℕ → ℕ → Option ℕ
table_byte s a1 a2 k =
    option_and_then (λ argument. byte_at s (address_after a2 argument)) (byte_at s (address_after a1 k))

-- each argument byte is present, and so is the table's byte for it; no other byte of the table is read
unfoldable pub HasTable : Storage → ℕ → ℕ → ℕ → Type 0
HasTable s n a1 a2 = (k : ℕ) → k < n → is_some (table_byte s a1 a2 k) ≡ true

-- TR: the table's byte for the argument byte, which isn't stored yet
unfoldable pub translated_byte : Storage → ℕ → ℕ → List ℕ → ℕ → ℕ
translated_byte s a1 a2 stored k =
    let x = address_after a2 (content_at s (address_after a1 k)) in
    byte_seen s stored (distance a1 x) x

unfoldable pub TrEffect : ℕ → ℕ → ℕ → Updated → Machine → Outcome → Machine → Type 0
TrEffect n a1 a2 updated m (Ok _) after =
    HasTable m.storage n a1 a2
    × (after ≡ record m {
      storage = after_write m.storage a1 (stored_by (translated_byte m.storage a1 a2) n);
      next = updated.address;
    })
TrEffect n a1 a2 updated m (Err cause) after =
    (HasTable m.storage n a1 a2 → ⊥) × (cause ≡ interruption.Addressing) × (after ≡ m)

-- TRT: the first place whose byte of the table isn't there with the value zero
abbrev pub ends_search : Option ℕ → Bool
ends_search byte = not (unwrap_or byte 1 == 0)

unfoldable pub first_found : Storage → ℕ → ℕ → ℕ → Option ℕ
first_found s n a1 a2 = find (λ k. ends_search (table_byte s a1 a2 k)) (range_with_len 0 n)

-- an address in bits 8 to 31 of a register; the other bits stay
abbrev pub with_address : ℕ → ℕ → ℕ
with_address word a = word / 2 ^ 24 * 2 ^ 24 + a

-- the argument's address in register 1, the table's byte in register 2
unfoldable pub found_at : ℕ → ℕ → ℕ → ℕ → Updated → Machine → Machine
found_at n a1 k byte updated m = record m {
  regs = slice_set (slice_set m.regs 1 (with_address (reg m 1) (address_after a1 k))) 2 (insert_byte (reg m 2) byte);
  cc = if k + 1 == n then 2 else 1;
  next = updated.address;
}

unfoldable pub Finds : ℕ → ℕ → ℕ → Updated → Machine → Outcome → Machine → Option ℕ → Type 0
Finds n a1 a2 updated m outcome after None = Completes outcome after (set_code 0 updated m)
Finds n a1 a2 updated m outcome after (Some k) =
    IfPresent (table_byte m.storage a1 a2 k) m outcome after
    (λ byte. Completes outcome after (found_at n a1 k byte updated m))

unfoldable pub TrtEffect : ℕ → ℕ → ℕ → Updated → Machine → Outcome → Machine → Type 0
TrtEffect n a1 a2 updated m outcome after =
    IfPresent (span m.storage a1 n) m outcome after
    (λ _. Finds n a1 a2 updated m outcome after (first_found m.storage n a1 a2))
