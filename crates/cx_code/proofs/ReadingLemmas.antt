-- What is read is what is spelled.
use Rattle.std.proofs.Common.{◌≡◌, ℕ, ◌+◌, ◌*◌, ◌/◌, ◌%◌, ◌<◌, ◌≤◌, List, [], ◌∷◌, ◌++◌, length, take, drop, Bool, true, false, cond, Option, Some, None, refl, sym, ◌∙◌, ap, subst, nat_lt, slice_index, option_and_then, arith, le-ltb, ltb-false, zero, suc}
use Rattle.std.proofs.lemmas.List.{take-append-drop}
use Rattle.std.specs.Int.{byte_at, bytes_high_first}
use Rattle.cx_code.specs.declared.table.Op.{Op}
use Rattle.cx_code.specs.declared.table.Format.{Format}
use Rattle.cx_code.specs.declared.table.Format.TheVariants as form
use Rattle.cx_code.specs.declared.instruction.Fields.{Fields}
use Rattle.cx_code.specs.declared.instruction.Fields.TheVariants.{Rr, Rx, Rs, Si, Ss, Ss2}
use Rattle.cx_code.specs.Table.{operation_row, code_of, format_of, length_of, length_of_format, is_shift, op_at}
use Rattle.cx_code.specs.Spelling.{Instruction, instruction, AreInRange, format_with, r3_of, IsWellFormed, spelling, Spells, Reads, with_r3_zero, AreBytes}
use Rattle.cx_code.specs.Parts.Bytes.{bytes_with}
use Rattle.cx_code.specs.Reading.{reading, reading_as, decoded_fields, fields_at, without_r3, base_at, displacement_at}
use Rattle.cx_code.proofs.TableLemmas.{op_at-code_of, code_of-op_at}
use Rattle.cx_code.proofs.SpellingLemmas.{spelling_bytes}

-- a shift's format is RS
pub shift_format : (op : Op) → is_shift op ≡ true → format_of op ≡ form.Rs
unfolding is_shift operation_row
shift_format op h = grind arith

-- the fields are in the bytes that they make
pub decoded_fields-bytes : (c : ℕ) (fields : Fields) (rest : List ℕ) → AreInRange fields → decoded_fields (format_with fields) (bytes_with c fields ++ rest) ≡ fields
unfolding decoded_fields
decoded_fields-bytes c (Rr r1 r2) rest h =
    let e1 : (16 * r1 + r2) / 16 ≡ r1 = omega arith in
    let e2 : (16 * r1 + r2) % 16 ≡ r2 = omega arith in
    cc
decoded_fields-bytes c (Rx r1 x2 b2 d2) rest h =
    let e1 : (16 * r1 + x2) / 16 ≡ r1 = omega arith in
    let e2 : (16 * r1 + x2) % 16 ≡ x2 = omega arith in
    let bytes = bytes_with c (Rx r1 x2 b2 d2) ++ rest in
    let e3 : base_at 2 bytes ≡ b2 = omega arith in
    let e4 : displacement_at 2 bytes ≡ d2 = omega arith in
    cc
decoded_fields-bytes c (Rs r1 r3 b2 d2) rest h =
    let e1 : (16 * r1 + r3) / 16 ≡ r1 = omega arith in
    let e2 : (16 * r1 + r3) % 16 ≡ r3 = omega arith in
    let bytes = bytes_with c (Rs r1 r3 b2 d2) ++ rest in
    let e3 : base_at 2 bytes ≡ b2 = omega arith in
    let e4 : displacement_at 2 bytes ≡ d2 = omega arith in
    cc
decoded_fields-bytes c (Si i2 b1 d1) rest h =
    let bytes = bytes_with c (Si i2 b1 d1) ++ rest in
    let e3 : base_at 2 bytes ≡ b1 = omega arith in
    let e4 : displacement_at 2 bytes ≡ d1 = omega arith in
    cc
decoded_fields-bytes c (Ss l b1 d1 b2 d2) rest h =
    let bytes = bytes_with c (Ss l b1 d1 b2 d2) ++ rest in
    let e3 : base_at 2 bytes ≡ b1 = omega arith in
    let e4 : displacement_at 2 bytes ≡ d1 = omega arith in
    let e5 : base_at 4 bytes ≡ b2 = omega arith in
    let e6 : displacement_at 4 bytes ≡ d2 = omega arith in
    cc
decoded_fields-bytes c (Ss2 l1 l2 b1 d1 b2 d2) rest h =
    let e1 : (16 * l1 + l2) / 16 ≡ l1 = omega arith in
    let e2 : (16 * l1 + l2) % 16 ≡ l2 = omega arith in
    let bytes = bytes_with c (Ss2 l1 l2 b1 d1 b2 d2) ++ rest in
    let e3 : base_at 2 bytes ≡ b1 = omega arith in
    let e4 : displacement_at 2 bytes ≡ d1 = omega arith in
    let e5 : base_at 4 bytes ≡ b2 = omega arith in
    let e6 : displacement_at 4 bytes ≡ d2 = omega arith in
    cc

-- reading by the row of the first byte
pub reading_from : (op : Op) (bytes : List ℕ) → slice_index bytes 0 ≡ code_of op → length_of op ≤ length bytes → reading bytes ≡ Some (instruction op (fields_at op bytes))
unfolding reading
reading_from op bytes e h =
    let long : nat_lt (length bytes) (length_of op) ≡ false = le-ltb _ _ h in
    rw (e, op_at-code_of op, long) refl

fields_at-plain : (op : Op) (bytes : List ℕ) → is_shift op ≡ false → fields_at op bytes ≡ decoded_fields (format_of op) bytes
unfolding fields_at
fields_at-plain op bytes e = rw e refl

fields_at-shift : (op : Op) (bytes : List ℕ) → is_shift op ≡ true → fields_at op bytes ≡ without_r3 (decoded_fields form.Rs bytes)
unfolding fields_at
fields_at-shift op bytes e = rw (e, shift_format op e) refl

-- how many bytes the fields make
length_bytes_with : (c : ℕ) (fields : Fields) (rest : List ℕ) → length (bytes_with c fields ++ rest) ≡ length_of_format (format_with fields) + length rest
length_bytes_with c (Rr _ _) rest = omega arith
length_bytes_with c (Rx _ _ _ _) rest = omega arith
length_bytes_with c (Rs _ _ _ _) rest = omega arith
length_bytes_with c (Si _ _ _) rest = omega arith
length_bytes_with c (Ss _ _ _ _ _) rest = omega arith
length_bytes_with c (Ss2 _ _ _ _ _ _) rest = omega arith

first_byte : (c : ℕ) (fields : Fields) (rest : List ℕ) → slice_index (bytes_with c fields ++ rest) 0 ≡ c
first_byte c (Rr _ _) rest = refl
first_byte c (Rx _ _ _ _) rest = refl
first_byte c (Rs _ _ _ _) rest = refl
first_byte c (Si _ _ _) rest = refl
first_byte c (Ss _ _ _ _ _) rest = refl
first_byte c (Ss2 _ _ _ _ _ _) rest = refl

-- an instruction that is no shift is read again, whatever follows it
read_plain : (op : Op) (fields : Fields) (rest : List ℕ) → is_shift op ≡ false → format_with fields ≡ format_of op → AreInRange fields → reading (bytes_with (code_of op) fields ++ rest) ≡ Some (instruction op fields)
read_plain op fields rest e same h =
    let bytes = bytes_with (code_of op) fields ++ rest in
    let long : length_of op ≤ length bytes =
    omega (arith, length_bytes_with (code_of op) fields rest, ap length_of_format same) in
    reading_from op bytes (first_byte (code_of op) fields rest) long
    ∙ ap (λ (f : Fields). Some (instruction op f)) (fields_at-plain op bytes e ∙ ap (λ (f : Format). decoded_fields f bytes) (sym same) ∙ decoded_fields-bytes (code_of op) fields rest h)

-- a shift is read again, whatever its R3 field holds and whatever follows
read_shift : (op : Op) (r1 b2 d2 : ℕ) (bytes rest : List ℕ) → is_shift op ≡ true → (r1 < 16) × (b2 < 16) × (d2 < 4096) → with_r3_zero bytes ≡ bytes_with (code_of op) (Rs r1 0 b2 d2) → reading (bytes ++ rest) ≡ Some (instruction op (Rs r1 0 b2 d2))
unfolding decoded_fields
read_shift op r1 b2 d2 [] rest e h same = cc
read_shift op r1 b2 d2 (c ∷ []) rest e h same = cc
read_shift op r1 b2 d2 (c ∷ s ∷ more) rest e h same =
    let code : c ≡ code_of op = cc in
    let half : 16 * (s / 16) ≡ 16 * r1 + 0 = cc in
    let tail : more ≡ (16 * b2 + d2 / 256) ∷ (d2 % 256) ∷ [] = cc in
    let bytes = c ∷ s ∷ (16 * b2 + d2 / 256) ∷ (d2 % 256) ∷ rest in
    let e1 : s / 16 ≡ r1 = omega arith in
    let e3 : base_at 2 bytes ≡ b2 = omega arith in
    let e4 : displacement_at 2 bytes ≡ d2 = omega arith in
    let there : without_r3 (decoded_fields form.Rs bytes) ≡ Rs r1 0 b2 d2 = cc in
    let long : length_of op ≤ length bytes = rw (shift_format op e) (omega arith) in
    let whole : c ∷ s ∷ (more ++ rest) ≡ bytes = ap (λ (m : List ℕ). c ∷ s ∷ (m ++ rest)) tail in
    ap reading whole
    ∙ reading_from op bytes code long
    ∙ ap (λ (f : Fields). Some (instruction op f)) (fields_at-shift op bytes e ∙ there)

-- the fields of a shift
shift_fields : (op : Op) (fields : Fields) (bytes rest : List ℕ) → is_shift op ≡ true → format_with fields ≡ form.Rs → AreInRange fields → r3_of fields ≡ 0 → with_r3_zero bytes ≡ bytes_with (code_of op) fields → reading (bytes ++ rest) ≡ Some (instruction op fields)
shift_fields op (Rr _ _) bytes rest e f h z same = cc
shift_fields op (Rx _ _ _ _) bytes rest e f h z same = cc
shift_fields op (Si _ _ _) bytes rest e f h z same = cc
shift_fields op (Ss _ _ _ _ _) bytes rest e f h z same = cc
shift_fields op (Ss2 _ _ _ _ _ _) bytes rest e f h z same = cc
shift_fields op (Rs r1 r3 b2 d2) bytes rest e f h z same =
    let zeroed : Rs r1 r3 b2 d2 ≡ Rs r1 0 b2 d2 = cc in
    read_shift op r1 b2 d2 bytes rest e (omega arith, omega arith, omega arith) (same ∙ ap (bytes_with (code_of op)) zeroed)
    ∙ ap (λ (f : Fields). Some (instruction op f)) (sym zeroed)

read_either : (op : Op) (fields : Fields) (bytes rest : List ℕ) (b : Bool) → is_shift op ≡ b → IsWellFormed (instruction op fields) → cond b (with_r3_zero bytes) bytes ≡ spelling (instruction op fields) → reading (bytes ++ rest) ≡ Some (instruction op fields)
unfolding IsWellFormed
read_either op fields bytes rest true e formed same =
    shift_fields op fields bytes rest e (formed.0 ∙ shift_format op e) formed.1 (formed.2 e) (same ∙ spelling_bytes op fields formed.1)
read_either op fields bytes rest false e formed same =
    ap (λ (b : List ℕ). reading (b ++ rest)) (same ∙ spelling_bytes op fields formed.1)
    ∙ read_plain op fields rest e formed.0 formed.1

-- what reads as an instruction is read so, whatever follows it
pub reading-Reads : (i : Instruction) (bytes rest : List ℕ) → Reads bytes i → reading (bytes ++ rest) ≡ Some i
unfolding Reads Spells
reading-Reads i bytes rest h = read_either i.op i.fields bytes rest (is_shift i.op) refl h.0 h.1

length-with_r3_zero : (bytes : List ℕ) → length (with_r3_zero bytes) ≡ length bytes
length-with_r3_zero [] = refl
length-with_r3_zero (c ∷ []) = refl
length-with_r3_zero (c ∷ s ∷ rest) = refl

length_either : (b : Bool) (bytes : List ℕ) → length (cond b (with_r3_zero bytes) bytes) ≡ length bytes
length_either true bytes = length-with_r3_zero bytes
length_either false bytes = refl

length_of_fields : (c : ℕ) (fields : Fields) → length (bytes_with c fields) ≡ length_of_format (format_with fields)
length_of_fields c (Rr _ _) = refl
length_of_fields c (Rx _ _ _ _) = refl
length_of_fields c (Rs _ _ _ _) = refl
length_of_fields c (Si _ _ _) = refl
length_of_fields c (Ss _ _ _ _ _) = refl
length_of_fields c (Ss2 _ _ _ _ _ _) = refl

-- how many bytes read as an instruction
pub length-Reads : (i : Instruction) (bytes : List ℕ) → Reads bytes i → length bytes ≡ length_of i.op
unfolding Reads Spells IsWellFormed
length-Reads i bytes h =
    sym (length_either (is_shift i.op) bytes)
    ∙ ap length (h.1 ∙ spelling_bytes i.op i.fields h.0.1)
    ∙ length_of_fields (code_of i.op) i.fields
    ∙ ap length_of_format h.0.0

-- the fields that are in bytes
format_with-fields_in : (f : Format) (b : List ℕ) → format_with (decoded_fields f b) ≡ f
unfolding decoded_fields
format_with-fields_in form.Rr b = refl
format_with-fields_in form.Rx b = refl
format_with-fields_in form.Rs b = refl
format_with-fields_in form.Si b = refl
format_with-fields_in form.Ss b = refl
format_with-fields_in form.Ss2 b = refl

range_in : (f : Format) (b : List ℕ) → AreBytes b → AreInRange (decoded_fields f b)
unfolding decoded_fields
range_in form.Rr b h = let one = h.at 1 in (omega arith, (omega arith, tt))
range_in form.Rx b h =
    let one = h.at 1 in
    let two = h.at 2 in
    let three = h.at 3 in
    (omega arith, (omega arith, (omega arith, (omega arith, tt))))
range_in form.Rs b h =
    let one = h.at 1 in
    let two = h.at 2 in
    let three = h.at 3 in
    (omega arith, (omega arith, (omega arith, (omega arith, tt))))
range_in form.Si b h =
    let one = h.at 1 in
    let two = h.at 2 in
    let three = h.at 3 in
    (omega arith, (omega arith, (omega arith, tt)))
range_in form.Ss b h =
    let one = h.at 1 in
    let two = h.at 2 in
    let three = h.at 3 in
    let four = h.at 4 in
    let five = h.at 5 in
    (omega arith, (omega arith, (omega arith, (omega arith, (omega arith, tt)))))
range_in form.Ss2 b h =
    let one = h.at 1 in
    let two = h.at 2 in
    let three = h.at 3 in
    let four = h.at 4 in
    let five = h.at 5 in
    (omega arith, (omega arith, (omega arith, (omega arith, (omega arith, (omega arith, tt))))))

-- the bytes are made of the fields that are in them
bytes_with-fields_in : (f : Format) (b : List ℕ) → AreBytes b → length_of_format f ≤ length b → bytes_with (slice_index b 0) (decoded_fields f b) ≡ take (length_of_format f) b
unfolding decoded_fields
bytes_with-fields_in form.Rr (a ∷ s ∷ rest) h long =
    let e1 : 16 * (s / 16) + s % 16 ≡ s = omega arith in
    cc
bytes_with-fields_in form.Rr _ h long = absurd (omega arith)
bytes_with-fields_in form.Rx (a ∷ s ∷ t ∷ u ∷ rest) h long =
    let low = h.at 3 in
    let e1 : 16 * (s / 16) + s % 16 ≡ s = omega arith in
    let b = a ∷ s ∷ t ∷ u ∷ rest in
    let e2 : 16 * base_at 2 b + displacement_at 2 b / 256 ≡ t = omega arith in
    let e3 : displacement_at 2 b % 256 ≡ u = omega arith in
    cc
bytes_with-fields_in form.Rx _ h long = absurd (omega arith)
bytes_with-fields_in form.Rs (a ∷ s ∷ t ∷ u ∷ rest) h long =
    let low = h.at 3 in
    let e1 : 16 * (s / 16) + s % 16 ≡ s = omega arith in
    let b = a ∷ s ∷ t ∷ u ∷ rest in
    let e2 : 16 * base_at 2 b + displacement_at 2 b / 256 ≡ t = omega arith in
    let e3 : displacement_at 2 b % 256 ≡ u = omega arith in
    cc
bytes_with-fields_in form.Rs _ h long = absurd (omega arith)
bytes_with-fields_in form.Si (a ∷ s ∷ t ∷ u ∷ rest) h long =
    let low = h.at 3 in
    let b = a ∷ s ∷ t ∷ u ∷ rest in
    let e2 : 16 * base_at 2 b + displacement_at 2 b / 256 ≡ t = omega arith in
    let e3 : displacement_at 2 b % 256 ≡ u = omega arith in
    cc
bytes_with-fields_in form.Si _ h long = absurd (omega arith)
bytes_with-fields_in form.Ss (a ∷ s ∷ t ∷ u ∷ v ∷ w ∷ rest) h long =
    let low = h.at 3 in
    let lowest = h.at 5 in
    let b = a ∷ s ∷ t ∷ u ∷ v ∷ w ∷ rest in
    let e2 : 16 * base_at 2 b + displacement_at 2 b / 256 ≡ t = omega arith in
    let e3 : displacement_at 2 b % 256 ≡ u = omega arith in
    let e4 : 16 * base_at 4 b + displacement_at 4 b / 256 ≡ v = omega arith in
    let e5 : displacement_at 4 b % 256 ≡ w = omega arith in
    cc
bytes_with-fields_in form.Ss _ h long = absurd (omega arith)
bytes_with-fields_in form.Ss2 (a ∷ s ∷ t ∷ u ∷ v ∷ w ∷ rest) h long =
    let low = h.at 3 in
    let lowest = h.at 5 in
    let e1 : 16 * (s / 16) + s % 16 ≡ s = omega arith in
    let b = a ∷ s ∷ t ∷ u ∷ v ∷ w ∷ rest in
    let e2 : 16 * base_at 2 b + displacement_at 2 b / 256 ≡ t = omega arith in
    let e3 : displacement_at 2 b % 256 ≡ u = omega arith in
    let e4 : 16 * base_at 4 b + displacement_at 4 b / 256 ≡ v = omega arith in
    let e5 : displacement_at 4 b % 256 ≡ w = omega arith in
    cc
bytes_with-fields_in form.Ss2 _ h long = absurd (omega arith)

-- the bytes of a shift with its R3 field put to zero are made of its fields without that field
shift_bytes : (b : List ℕ) → AreBytes b → 4 ≤ length b → bytes_with (slice_index b 0) (without_r3 (decoded_fields form.Rs b)) ≡ with_r3_zero (take 4 b)
unfolding decoded_fields
shift_bytes (a ∷ s ∷ t ∷ u ∷ rest) h long =
    let low = h.at 3 in
    let b = a ∷ s ∷ t ∷ u ∷ rest in
    let e1 : 16 * (s / 16) + 0 ≡ 16 * (s / 16) = omega arith in
    let e2 : 16 * base_at 2 b + displacement_at 2 b / 256 ≡ t = omega arith in
    let e3 : displacement_at 2 b % 256 ≡ u = omega arith in
    cc
shift_bytes _ h long = absurd (omega arith)

-- a shift's fields without the R3 field are in their ranges
shift_range : (b : List ℕ) → AreBytes b → AreInRange (without_r3 (decoded_fields form.Rs b))
unfolding decoded_fields
shift_range b h =
    let one = h.at 1 in
    let two = h.at 2 in
    let three = h.at 3 in
    (omega arith, (omega arith, (omega arith, (omega arith, tt))))

shift_formed : (op : Op) (b : List ℕ) → AreBytes b → is_shift op ≡ true → IsWellFormed (instruction op (without_r3 (decoded_fields form.Rs b)))
unfolding IsWellFormed decoded_fields
shift_formed op b h e = (sym (shift_format op e), shift_range b h, λ _. refl)

plain_formed : (op : Op) (b : List ℕ) → AreBytes b → is_shift op ≡ false → IsWellFormed (instruction op (decoded_fields (format_of op) b))
unfolding IsWellFormed
plain_formed op b h e = (format_with-fields_in (format_of op) b, range_in (format_of op) b h, λ s. cc)

-- what is read spells the bytes, apart from a shift's R3 field
sound_either : (op : Op) (b : List ℕ) (s : Bool) → is_shift op ≡ s → AreBytes b → code_of op ≡ slice_index b 0 → length_of op ≤ length b → Reads (take (length_of op) b) (instruction op (fields_at op b))
unfolding Reads Spells
sound_either op b true e h code long =
    let four : 4 ≤ length b = omega (arith, ap length_of_format (shift_format op e)) in
    let f = without_r3 (decoded_fields form.Rs b) in
    let formed = shift_formed op b h e in
    let spelled : spelling (instruction op f) ≡ with_r3_zero (take 4 b) =
    spelling_bytes op f (shift_range b h) ∙ ap (λ (c : ℕ). bytes_with c f) code ∙ shift_bytes b h four in
    rw (fields_at-shift op b e, e, shift_format op e) (formed, sym spelled)
sound_either op b false e h code long =
    let f = decoded_fields (format_of op) b in
    let formed = plain_formed op b h e in
    let spelled : spelling (instruction op f) ≡ take (length_of op) b =
    spelling_bytes op f (range_in (format_of op) b h) ∙ ap (λ (c : ℕ). bytes_with c f) code ∙ bytes_with-fields_in (format_of op) b h long in
    rw (fields_at-plain op b e, e) (formed, sym spelled)

-- what is read has its fields in their ranges
pub formed_at : (op : Op) (b : List ℕ) → AreBytes b → IsWellFormed (instruction op (fields_at op b))
formed_at op b h = formed_either (is_shift op) refl where
  formed_either : (s : Bool) → is_shift op ≡ s → IsWellFormed (instruction op (fields_at op b))
  formed_either true e = rw (fields_at-shift op b e) (shift_formed op b h e)
  formed_either false e = rw (fields_at-plain op b e) (plain_formed op b h e)

-- the parts of a reading
record Parts (o : Option Op) (b : List ℕ) (i : Instruction) : Type 0 where
  op : Op
  row : o ≡ Some op
  long : length_of op ≤ length b
  whole : instruction op (fields_at op b) ≡ i

parts_either : (op : Op) (b : List ℕ) (i : Instruction) (s : Bool) → nat_lt (length b) (length_of op) ≡ s → cond s None (Some (instruction op (fields_at op b))) ≡ Some i → Parts (Some op) b i
parts_either op b i true short e = cc
parts_either op b i false short e =
    record { op = op; row = refl; long = ltb-false _ _ short; whole = cc }

reading_parts : (o : Option Op) (b : List ℕ) (i : Instruction) → option_and_then (reading_as b) o ≡ Some i → Parts o b i
reading_parts None b i e = cc
reading_parts (Some op) b i e = parts_either op b i (nat_lt (length b) (length_of op)) refl e

-- what is read is of the first byte's row, and no longer than the bytes
pub reading_first : (b : List ℕ) (i : Instruction) → reading b ≡ Some i → (slice_index b 0 ≡ code_of i.op) × (length_of i.op ≤ length b)
unfolding reading
reading_first b i e =
    let parts = reading_parts (op_at (slice_index b 0)) b i e in
    let P : Instruction → Type 0 = λ j. (slice_index b 0 ≡ code_of j.op) × (length_of j.op ≤ length b) in
    subst P parts.whole (sym (code_of-op_at _ _ parts.row), parts.long)

-- what is read is at the front, apart from a shift's R3 field
pub reading-sound : (b : List ℕ) (i : Instruction) → AreBytes b → reading b ≡ Some i → (length_of i.op ≤ length b) × Reads (take (length_of i.op) b) i
unfolding reading
reading-sound b i h e =
    let parts = reading_parts (op_at (slice_index b 0)) b i e in
    let read = sound_either parts.op b (is_shift parts.op) refl h (code_of-op_at _ _ parts.row) parts.long in
    let P : Instruction → Type 0 = λ j. (length_of j.op ≤ length b) × Reads (take (length_of j.op) b) j in
    subst P parts.whole (parts.long, read)

-- where nothing is read no front is an instruction
pub reading-none : (b : List ℕ) (i : Instruction) (n : ℕ) → reading b ≡ None → Reads (take n b) i → ⊥
reading-none b i n e h =
    let front = reading-Reads i (take n b) (drop n b) h in
    let whole = take-append-drop n b in
    cc

-- the bytes of a number are bytes
byte_below : (k x : ℕ) → byte_at k x < 256
byte_below zero x = omega arith
byte_below (suc k) x = omega arith

bytes_below : (n x k : ℕ) → slice_index (bytes_high_first n x) k < 256
bytes_below zero x k = omega arith
bytes_below (suc n) x zero = byte_below n x
bytes_below (suc n) x (suc k) = bytes_below n x k

pub AreBytes-spelling : (i : Instruction) → AreBytes (spelling i)
unfolding spelling
AreBytes-spelling i = record { at = bytes_below _ _ }
