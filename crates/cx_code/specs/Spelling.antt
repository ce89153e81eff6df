-- Instructions and their spelling as bytes (Principles of Operation, GA22-7000, "Instruction Formats").
use Rattle.std.specs.Prelude.{◌≡◌, ℕ, ◌+◌, ◌*◌, ◌/◌, ◌^◌, ◌<◌, List, [], ◌∷◌, true, sum_by, slice_index, if◌then◌else◌}
use Rattle.std.specs.List.{AllByRecursion}
use Rattle.byteorder.specs.Endian.{big_bytes}
use Rattle.cx_code.specs.declared.table.Op.{Op}
use Rattle.cx_code.specs.declared.table.Format.{Format}
use Rattle.cx_code.specs.declared.table.Format.TheVariants as form
use Rattle.cx_code.specs.declared.instruction.Fields.{Fields}
use Rattle.cx_code.specs.declared.instruction.Fields.TheVariants.{Rr, Rx, Rs, Si, Ss, Ss2}
use Rattle.cx_code.specs.Table.{code_of, format_of, is_shift}

-- a row of the table and the values of its fields
pub record Instruction : Type 0 where
  pub op : Op
  pub fields : Fields

abbrev pub instruction : Op → Fields → Instruction
instruction op fields = record { op = op; fields = fields }

-- a field: how many bits it has, and its value
pub record Field : Type 0 where
  pub bits : ℕ
  pub value : ℕ

abbrev pub field : ℕ → ℕ → Field
field bits value = record { bits = bits; value = value }

-- the fields of each format from left to right, after the operation code: a register, a mask or one of two lengths has
-- 4 bits, an immediate byte or a length 8, a displacement 12
abbrev pub fields_of : Fields → List Field
fields_of (Rr r1 r2) = field 4 r1 ∷ field 4 r2 ∷ []
fields_of (Rx r1 x2 b2 d2) = field 4 r1 ∷ field 4 x2 ∷ field 4 b2 ∷ field 12 d2 ∷ []
fields_of (Rs r1 r3 b2 d2) = field 4 r1 ∷ field 4 r3 ∷ field 4 b2 ∷ field 12 d2 ∷ []
fields_of (Si i2 b1 d1) = field 8 i2 ∷ field 4 b1 ∷ field 12 d1 ∷ []
fields_of (Ss l b1 d1 b2 d2) = field 8 l ∷ field 4 b1 ∷ field 12 d1 ∷ field 4 b2 ∷ field 12 d2 ∷ []
fields_of (Ss2 l1 l2 b1 d1 b2 d2) =
    field 4 l1 ∷ field 4 l2 ∷ field 4 b1 ∷ field 12 d1 ∷ field 4 b2 ∷ field 12 d2 ∷ []

-- the format that has these fields
abbrev pub format_with : Fields → Format
format_with (Rr _ _) = form.Rr
format_with (Rx _ _ _ _) = form.Rx
format_with (Rs _ _ _ _) = form.Rs
format_with (Si _ _ _) = form.Si
format_with (Ss _ _ _ _ _) = form.Ss
format_with (Ss2 _ _ _ _ _ _) = form.Ss2

-- the R3 field, which of these formats RS alone has
abbrev pub r3_of : Fields → ℕ
r3_of (Rs r1 r3 b2 d2) = r3
r3_of _ = 0

-- each field is in the range that its bits give it
abbrev pub AreInRange : Fields → Type 0
AreInRange fields = AllByRecursion (λ f. f.value < 2 ^ f.bits) (fields_of fields)

-- the fields are those of the row's format, each is in its range, and a shift's R3 field is zero
unfoldable pub IsWellFormed : Instruction → Type 0
IsWellFormed i =
    (format_with i.fields ≡ format_of i.op) × AreInRange i.fields × (is_shift i.op ≡ true → r3_of i.fields ≡ 0)

-- the whole instruction: the operation code and the fields
abbrev pub layout : Instruction → List Field
layout i = field 8 (code_of i.op) ∷ fields_of i.fields

-- the number that fields make side by side, the leftmost highest
abbrev pub join_fields : ℕ → List Field → ℕ
join_fields left [] = left
join_fields left (f ∷ fs) = join_fields (left * 2 ^ f.bits + f.value) fs

-- the fields side by side, as bytes
unfoldable pub spelling : Instruction → List ℕ
spelling i = big_bytes (sum_by (λ f. f.bits) (layout i) / 8) (join_fields 0 (layout i))

-- the bytes are the canonical spelling of the instruction
unfoldable pub Spells : Instruction → List ℕ → Type 0
Spells i bytes = IsWellFormed i × (bytes ≡ spelling i)

-- each number is a byte
pub record AreBytes (bytes : List ℕ) : Type 0 where
  pub at : (k : ℕ) → slice_index bytes k < 256

-- the bytes with the R3 field, the low half of the second byte, put to zero
abbrev pub with_r3_zero : List ℕ → List ℕ
with_r3_zero [] = []
with_r3_zero (code ∷ []) = code ∷ []
with_r3_zero (code ∷ second ∷ rest) = code ∷ 16 * (second / 16) ∷ rest

-- the bytes spell the instruction, apart from a shift's R3 field
unfoldable pub Reads : List ℕ → Instruction → Type 0
Reads bytes i = Spells i (if is_shift i.op then with_r3_zero bytes else bytes)
