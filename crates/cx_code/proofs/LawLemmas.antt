-- The laws of spelling and reading.
use Rattle.std.proofs.Common.{◌≡◌, ◌↔◌, ℕ, ◌+◌, ◌*◌, ◌/◌, ◌≤◌, List, [], ◌∷◌, ◌++◌, length, take, drop, Bool, true, false, cond, Option, Some, None, refl, sym, ◌∙◌, ap, subst, option_and_then, bytes_eq, arith, length-append, eqb-true, eqb, append-nil}
use Rattle.std.specs.List.{list_all}
use Rattle.std.proofs.lemmas.Slice.Eq.{bytes_eq-Decides}
use Rattle.std.proofs.lemmas.List.{take-append-drop}
use Rattle.cx_code.specs.declared.table.Op.{Op}
use Rattle.cx_code.specs.declared.instruction.Fields.{Fields}
use Rattle.cx_code.specs.declared.instruction.Fields.TheVariants.{Rr, Rx, Rs, Si, Ss, Ss2}
use Rattle.cx_code.specs.Table.{operation_row, ops, code_of, mnemonic_of, length_of, length_of_code, is_shift, op_at, op_named}
use Rattle.cx_code.specs.Spelling.{Instruction, instruction, IsWellFormed, spelling, Spells, Reads, with_r3_zero, AreBytes}
use Rattle.cx_code.specs.Parts.Bytes.{bytes_with}
use Rattle.cx_code.specs.Reading.{reading, canonical, canonical_as}
use Rattle.cx_code.proofs.TableLemmas.{op_at-code_of, op_named-mnemonic_of, code_of-op_at, mnemonic_of-op_named, each_row}
use Rattle.cx_code.proofs.SpellingLemmas.{spelling_bytes}
use Rattle.cx_code.proofs.ReadingLemmas.{reading-Reads, reading-sound, length-Reads, AreBytes-spelling, shift_format}

pub one_row : (code : ℕ) (op : Op) → (op_at code ≡ Some op) ↔ (code_of op ≡ code)
one_row code op = (code_of-op_at code op, λ e. sym (ap op_at e) ∙ op_at-code_of op)

pub one_mnemonic : (name : List ℕ) (op : Op) → (op_named name ≡ Some op) ↔ (mnemonic_of op ≡ name)
one_mnemonic name op = (mnemonic_of-op_named name op, λ e. sym (ap op_named e) ∙ op_named-mnemonic_of op)

lengths_agree : list_all (λ o. eqb (length_of_code (code_of o)) (length_of o)) ops ≡ true
unfolding ops operation_row
lengths_agree = refl

pub first_bits : (op : Op) → length_of_code (code_of op) ≡ length_of op
first_bits op = eqb-true _ _ (each_row (λ o. eqb (length_of_code (code_of o)) (length_of o)) lengths_agree op)

pub one_reading : (bytes : List ℕ) (i j : Instruction) → Reads bytes i → Reads bytes j → i ≡ j
one_reading bytes i j h k =
    let a = reading-Reads i bytes [] h in
    let b = reading-Reads j bytes [] k in
    cc

front_step : (bytes rest : List ℕ) (m n : ℕ) → length bytes ≡ m → length (bytes ++ rest) ≡ n → m ≡ n → rest ≡ []
front_step bytes [] m n p q e = refl
front_step bytes (x ∷ xs) m n p q e = absurd (omega (arith, length-append bytes (x ∷ xs)))

pub no_front : (bytes rest : List ℕ) (i j : Instruction) → Reads bytes i → Reads (bytes ++ rest) j → (i ≡ j) × (rest ≡ [])
no_front bytes rest i j h k =
    let a = reading-Reads i bytes rest h in
    let b = reading-Reads j (bytes ++ rest) [] k in
    let c : (bytes ++ rest) ++ [] ≡ bytes ++ rest = append-nil _ in
    let same : i ≡ j = cc in
    (same, front_step bytes rest _ _ (length-Reads i bytes h) (length-Reads j (bytes ++ rest) k) (ap (λ (v : Instruction). length_of v.op) same))

-- a canonical spelling has no R3 field to put to zero
zero_stays : (op : Op) (fields : Fields) → is_shift op ≡ true → IsWellFormed (instruction op fields) → with_r3_zero (bytes_with (code_of op) fields) ≡ bytes_with (code_of op) fields
unfolding IsWellFormed
zero_stays op (Rr _ _) s h = let e = h.0 ∙ shift_format op s in cc
zero_stays op (Rx _ _ _ _) s h = let e = h.0 ∙ shift_format op s in cc
zero_stays op (Rs r1 r3 b2 d2) s h =
    let zeroed : r3 ≡ 0 = h.2 s in
    let half : 16 * ((16 * r1 + r3) / 16) ≡ 16 * r1 + r3 = omega arith in
    cc
zero_stays op (Si _ _ _) s h = let e = h.0 ∙ shift_format op s in cc
zero_stays op (Ss _ _ _ _ _) s h = let e = h.0 ∙ shift_format op s in cc
zero_stays op (Ss2 _ _ _ _ _ _) s h = let e = h.0 ∙ shift_format op s in cc

reads_either : (i : Instruction) (bytes : List ℕ) (s : Bool) → is_shift i.op ≡ s → Spells i bytes → Spells i (cond s (with_r3_zero bytes) bytes)
unfolding Spells IsWellFormed
reads_either i bytes true e h =
    let made = spelling_bytes i.op i.fields h.0.1 in
    (h.0, ap with_r3_zero (h.1 ∙ made) ∙ zero_stays i.op i.fields e h.0 ∙ sym made)
reads_either i bytes false e h = h

pub spelled_reads : (i : Instruction) (bytes : List ℕ) → Spells i bytes → Reads bytes i
unfolding Reads
spelled_reads i bytes h = reads_either i bytes (is_shift i.op) refl h

pub one_spelling : (bytes : List ℕ) (i j : Instruction) → Spells i bytes → Spells j bytes → i ≡ j
one_spelling bytes i j h k =
    one_reading bytes i j (spelled_reads i bytes h) (spelled_reads j bytes k)

pub length_read : (bytes : List ℕ) (i : Instruction) → Reads bytes i → (length bytes ≡ length_of i.op)
length_read bytes i h = length-Reads i bytes h

pub reading_is : (bytes : List ℕ) (i : Instruction) → AreBytes bytes → ((reading bytes ≡ Some i) ↔ ((length_of i.op ≤ length bytes) × Reads (take (length_of i.op) bytes) i))
reading_is bytes i h = (
  reading-sound bytes i h,
  λ r. ap reading (sym (take-append-drop (length_of i.op) bytes)) ∙ reading-Reads i (take (length_of i.op) bytes) (drop (length_of i.op) bytes) r.1,
)

pub read_before_rest : (bytes rest : List ℕ) (i : Instruction) → Reads bytes i → reading (bytes ++ rest) ≡ Some i
read_before_rest bytes rest i h = reading-Reads i bytes rest h

-- the parts of an answer of `canonical`
canonical_step : (bytes : List ℕ) (o : Option Instruction) (i : Instruction) → option_and_then (canonical_as bytes) o ≡ Some i → (o ≡ Some i) × (spelling i ≡ bytes)
canonical_step bytes None i e = cc
canonical_step bytes (Some j) i e = step (bytes_eq (spelling j) bytes) refl e where
  step : (b : Bool) → bytes_eq (spelling j) bytes ≡ b → cond b (Some j) None ≡ Some i → (Some j ≡ Some i) × (spelling i ≡ bytes)
  step true t e = (e, let same = (bytes_eq-Decides (spelling j) bytes).0 t in cc)
  step false t e = cc

canonical_found : (bytes : List ℕ) (o : Option Instruction) (i : Instruction) → o ≡ Some i → spelling i ≡ bytes → option_and_then (canonical_as bytes) o ≡ Some i
canonical_found bytes o i e same =
    let t = (bytes_eq-Decides (spelling i) bytes).1 same in
    rw (e, t) refl

-- what reads is well formed
pub formed_from : (bytes : List ℕ) (i : Instruction) → Reads bytes i → IsWellFormed i
unfolding Reads Spells
formed_from bytes i h = h.0

canonical_from : (bytes : List ℕ) (i : Instruction) → canonical bytes ≡ Some i → Spells i bytes
unfolding canonical Spells
canonical_from bytes i e =
    let parts = canonical_step bytes (reading bytes) i e in
    let all = subst AreBytes parts.1 (AreBytes-spelling i) in
    let found = reading-sound bytes i all parts.0 in
    (formed_from _ i found.1, sym parts.1)

canonical_to : (bytes : List ℕ) (i : Instruction) → Spells i bytes → canonical bytes ≡ Some i
unfolding canonical Spells
canonical_to bytes i h =
    let read = reading-Reads i bytes [] (spelled_reads i bytes h) in
    let whole : bytes ++ [] ≡ bytes = append-nil bytes in
    canonical_found bytes (reading bytes) i (ap reading (sym whole) ∙ read) (sym h.1)

pub canonical_is : (bytes : List ℕ) (i : Instruction) → (canonical bytes ≡ Some i) ↔ Spells i bytes
canonical_is bytes i = (canonical_from bytes i, canonical_to bytes i)

pub every_spelling : (i : Instruction) → IsWellFormed i → Spells i (spelling i)
unfolding Spells
every_spelling i h = (h, refl)

pub length-spelling : (i : Instruction) → IsWellFormed i → length (spelling i) ≡ length_of i.op
length-spelling i h =
    length-Reads i (spelling i) (spelled_reads i (spelling i) (every_spelling i h))
