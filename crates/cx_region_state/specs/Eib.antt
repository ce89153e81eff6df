-- The EXEC interface block of a task (Application Programmer's Reference Manual, SC33-0077, "EXEC Interface Block").
-- Bytes that no field names are zero at attach and are never written.
use Rattle.std.specs.Prelude.{ℕ, ◌+◌, ◌*◌, ◌/◌, ◌%◌, List, [], ◌∷◌, Option, Some, None}
use Rattle.std.specs.Int.{w16, to_be_bytes}
use Rattle.cx_storage.specs.Storage.{Storage, after_write}
use Rattle.cx_storage.specs.Address.{address_after}
use Rattle.cx_base.specs.declared.eib.EibField.{EibField}
use Rattle.cx_base.specs.declared.eib.EibField.TheVariants.{Time, Date, Trnid, Taskn, Trmid, Calen, Aid}
use Rattle.cx_base.specs.Eib.{eib_field}
use Rattle.cx_region_state.specs.declared.eib.InitialEib.{InitialEib}

-- the decimal digit of a number at a power of ten
abbrev pub digit_at_power : ℕ → ℕ → ℕ
digit_at_power n power = n / power % 10

-- a number of at most seven digits, packed with the sign C (GA22-7000, "Decimal Number Representation")
unfoldable pub packed_decimal : ℕ → List ℕ
packed_decimal n =
    (digit_at_power n 1000000 * 16 + digit_at_power n 100000) ∷ (digit_at_power n 10000 * 16 + digit_at_power n 1000)
    ∷ (digit_at_power n 100 * 16 + digit_at_power n 10)
    ∷ (digit_at_power n 1 * 16 + 0xC) ∷ []

-- a field with its content
pub record Content : Type 0 where
  pub field : EibField
  pub bytes : List ℕ

abbrev pub content : EibField → List ℕ → Content
content field bytes = record { field = field; bytes = bytes }

-- storage with the fields of the EIB at an address written in turn
unfoldable pub with_field : Storage → ℕ → Content → Storage
with_field storage eib content = after_write storage (address_after eib (eib_field content.field).offset) content.bytes

abbrev pub with_fields : Storage → ℕ → List Content → Storage
with_fields storage eib [] = storage
with_fields storage eib (content ∷ contents) = with_fields (with_field storage eib content) eib contents

-- what attach writes
abbrev pub fields_at_attach : InitialEib → List Content
fields_at_attach begun =
    content Time (packed_decimal begun.time) ∷ content Date (packed_decimal begun.date) ∷ content Trnid begun.tran
    ∷ content Taskn (packed_decimal begun.number)
    ∷ content Trmid begun.terminal ∷ content Calen (to_be_bytes w16 begun.calen) ∷ content Aid (begun.aid ∷ []) ∷ []

-- EIBCALEN, where it is set
unfoldable pub with_calen : Storage → ℕ → Option ℕ → Storage
with_calen storage eib None = storage
with_calen storage eib (Some calen) = with_field storage eib (content Calen (to_be_bytes w16 calen))
