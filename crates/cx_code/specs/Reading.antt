-- What is read at the front of bytes (GA22-7000, "Instruction Formats"). The laws of `laws` say that this is `Reads`,
-- and, where the spelling is canonical, `Spells`.
use Rattle.std.specs.Prelude.{ℕ, ◌/◌, ◌%◌, List, length, Option, Some, None, option_and_then, slice_index, nat_lt, if◌then◌else◌}
use Rattle.std.specs.Str.{bytes_eq}
use Rattle.byteorder.specs.Endian.{big_from}
use Rattle.cx_code.specs.declared.table.Op.{Op}
use Rattle.cx_code.specs.declared.table.Format.{Format}
use Rattle.cx_code.specs.declared.table.Format.TheVariants as form
use Rattle.cx_code.specs.declared.instruction.Fields.{Fields}
use Rattle.cx_code.specs.declared.instruction.Fields.TheVariants.{Rr, Rx, Rs, Si, Ss, Ss2}
use Rattle.cx_code.specs.Table.{op_at, format_of, length_of, is_shift}
use Rattle.cx_code.specs.Spelling.{Instruction, instruction, spelling}

-- the halves of the second byte, and base and displacement in the halfword at a place
abbrev pub left_half : List ℕ → ℕ
left_half bytes = slice_index bytes 1 / 16

abbrev pub right_half : List ℕ → ℕ
right_half bytes = slice_index bytes 1 % 16

abbrev pub base_at : ℕ → List ℕ → ℕ
base_at place bytes = big_from place 2 bytes / 4096

abbrev pub displacement_at : ℕ → List ℕ → ℕ
displacement_at place bytes = big_from place 2 bytes % 4096

-- the fields of a format in the bytes of an instruction
unfoldable pub decoded_fields : Format → List ℕ → Fields
decoded_fields form.Rr b = Rr (left_half b) (right_half b)
decoded_fields form.Rx b = Rx (left_half b) (right_half b) (base_at 2 b) (displacement_at 2 b)
decoded_fields form.Rs b = Rs (left_half b) (right_half b) (base_at 2 b) (displacement_at 2 b)
decoded_fields form.Si b = Si (slice_index b 1) (base_at 2 b) (displacement_at 2 b)
decoded_fields form.Ss b =
    Ss (slice_index b 1) (base_at 2 b) (displacement_at 2 b) (base_at 4 b) (displacement_at 4 b)
decoded_fields form.Ss2 b =
    Ss2 (left_half b) (right_half b) (base_at 2 b) (displacement_at 2 b) (base_at 4 b) (displacement_at 4 b)

-- the fields with the R3 field put to zero
abbrev pub without_r3 : Fields → Fields
without_r3 (Rs r1 r3 b2 d2) = Rs r1 0 b2 d2
without_r3 other = other

-- the fields that a row has in the bytes of an instruction
unfoldable pub fields_at : Op → List ℕ → Fields
fields_at op bytes =
    if is_shift op then without_r3 (decoded_fields (format_of op) bytes) else decoded_fields (format_of op) bytes

abbrev pub reading_as : List ℕ → Op → Option Instruction
reading_as bytes op = if nat_lt (length bytes) (length_of op) then None else Some (instruction op (fields_at op bytes))

-- the instruction at the front of the bytes
unfoldable pub reading : List ℕ → Option Instruction
reading bytes = option_and_then (reading_as bytes) (op_at (slice_index bytes 0))

abbrev pub canonical_as : List ℕ → Instruction → Option Instruction
canonical_as bytes i = if bytes_eq (spelling i) bytes then Some i else None

-- the instruction whose canonical spelling the bytes are, all of them
unfoldable pub canonical : List ℕ → Option Instruction
canonical bytes = option_and_then (canonical_as bytes) (reading bytes)
