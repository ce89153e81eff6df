-- The targets that are counted are those of EX.
use Rattle.std.proofs.Common.{◌≡◌, ℕ, zero, suc, ◌<◌, ◌≤◌, Bool, true, false, Option, Some, None, List, ◌∷◌, length, refl, sym, subst, ap, ◌∙◌, arith}
use Rattle.std.specs.Prelude.{◌==◌, if◌then◌else◌, option_and_then, option_map, slice_index}
use Rattle.std.specs.Option.{option_map_or}
use Rattle.std.proofs.lemmas.Bool.Decides.{nat_tests}
use Rattle.cx_storage.specs.Address.{address_after}
use Rattle.cx_storage.specs.Storage.{Storage, byte_at, span}
use Rattle.cx_storage.specs.Facts.Spans.{span_length}
use Rattle.cx_code.specs.Reading.{base_at, decoded_fields, displacement_at, fields_at, left_half, reading, right_half}
use Rattle.cx_code.specs.Spelling.{Instruction, instruction}
use Rattle.cx_code.specs.Table.{code_of, is_shift, length_of, length_of_code, operation_row}
use Rattle.cx_code.specs.declared.instruction.Fields.{Fields}
use Rattle.cx_code.specs.declared.instruction.Fields.TheVariants.{Rx}
use Rattle.cx_code.specs.declared.table.Op.{Op}
use Rattle.cx_code.specs.declared.table.Op.TheVariants.{Ex}
use Rattle.cx_exec.specs.Machine.{Machine, effective}
use Rattle.cx_look_cover.specs.Laws.{LeadsTo, TargetsAreOfExecutes}
use Rattle.cx_exec.specs.Passages.{is_execute_next, operand_in, target_of}

-- what is known of reading by a first byte
abbrev pub IsKnown : Type 0
IsKnown = (bytes : List ℕ) (op : Op) → slice_index bytes 0 ≡ code_of op → length_of op ≤ length bytes → reading bytes ≡ Some (instruction op (fields_at op bytes))

abbrev pub IsOnly : Type 0
IsOnly = (bytes : List ℕ) (i : Instruction) → reading bytes ≡ Some i → (slice_index bytes 0 ≡ code_of i.op) × (length_of i.op ≤ length bytes)

-- the first byte of a span
first_byte : (s : Storage) (a n : ℕ) (bytes : List ℕ) → span s a n ≡ Some bytes → 0 < n → byte_at s a ≡ Some (slice_index bytes 0)
unfolding span
first_byte s a zero bytes e h = absurd (omega arith)
first_byte s a (suc n) bytes e h = go (byte_at s a) (span s (address_after a 1) n) e
  where
    go : (o : Option ℕ) (r : Option (List ℕ)) → option_and_then (λ b. option_map (λ bs. b ∷ bs) r) o ≡ Some bytes → o ≡ Some (slice_index bytes 0)
    go None r e = cc
    go (Some b) None e = cc
    go (Some b) (Some bs) e = let shape : b ∷ bs ≡ bytes = cc in rw (← shape) refl

-- ---- a target is of an EX
record IsTarget (m : Machine) (address : ℕ) : Type 0 where
  code : List ℕ
  first : byte_at m.storage m.next ≡ Some 0x44
  four : span m.storage m.next 4 ≡ Some code
  is : address ≡ operand_in m.regs code

parts_of : (m : Machine) (address : ℕ) (first : Option ℕ) (four : Option (List ℕ)) (here : Bool) → byte_at m.storage m.next ≡ first
    → span m.storage m.next 4 ≡ four → option_map_or (λ code. code == 0x44) first false ≡ here
    → (if here then option_map (operand_in m.regs) four else None) ≡ Some address → IsTarget m address
parts_of m address first four false e1 e2 e3 e = absurd (cc)
parts_of m address None four true e1 e2 e3 e = absurd (cc)
parts_of m address (Some c) None true e1 e2 e3 e = absurd (cc)
parts_of m address (Some c) (Some code) true e1 e2 e3 e =
    let same : c ≡ 0x44 = grind (arith, nat_tests, e3) in
    let is : operand_in m.regs code ≡ address = cc in
    record { code = code; first = e1 ∙ ap (λ (b : ℕ). Some b) same; four = e2; is = sym is }

target_parts : (m : Machine) (address : ℕ) → target_of m ≡ Some address → IsTarget m address
unfolding target_of
target_parts m address e =
    parts_of m address (byte_at m.storage m.next) (span m.storage m.next 4) (is_execute_next m) refl refl refl e

execute_fields : (code : List ℕ) → fields_at Ex code ≡ Rx (left_half code) (right_half code) (base_at 2 code) (displacement_at 2 code)
unfolding operation_row fields_at is_shift decoded_fields
execute_fields code = refl

execute_code : code_of Ex ≡ 0x44
unfolding operation_row
execute_code = refl

execute_length : length_of Ex ≡ 4
unfolding operation_row
execute_length = refl

leads_to : IsKnown → (m : Machine) (address : ℕ) → IsTarget m address → LeadsTo m address
leads_to known m address t =
    let size = span_length m.storage m.next 4 t.code t.four in
    let there = first_byte m.storage m.next 4 t.code t.four (omega arith) in
    let byte : slice_index t.code 0 ≡ 0x44 = let first = t.first in cc in
    let short = execute_length in
    let read = known t.code Ex (byte ∙ sym execute_code) (omega (arith, size, short)) in
    record {
      code = t.code;
      are = ap (λ (o : Option ℕ). option_and_then (λ first. span m.storage m.next (length_of_code first)) o) t.first ∙ t.four;
      r1 = left_half t.code;
      x2 = right_half t.code;
      b2 = base_at 2 t.code;
      d2 = displacement_at 2 t.code;
      reads = read ∙ ap (λ (f : Fields). Some (instruction Ex f)) (execute_fields t.code);
      is = t.is;
    }

-- ---- an EX has its target
some_length : (one other : Bool) → 0 < (if one then 2 else (if other then 6 else 4))
some_length true other = omega arith
some_length false true = omega arith
some_length false false = omega arith

record IsExecute (s : Storage) (a : ℕ) (code : List ℕ) : Type 0 where
  first : byte_at s a ≡ Some 0x44
  four : span s a 4 ≡ Some code

by_first : (s : Storage) (a : ℕ) (code : List ℕ) (first : Option ℕ) → byte_at s a ≡ first
    → option_and_then (λ c. span s a (length_of_code c)) first ≡ Some code → slice_index code 0 ≡ 0x44 → IsExecute s a code
by_first s a code None e are byte = absurd (cc)
by_first s a code (Some c) e are byte =
    let there = first_byte s a (length_of_code c) code are (some_length _ _) in
    let same : c ≡ 0x44 = cc in
    record { first = there ∙ ap (λ (b : ℕ). Some b) byte; four = subst (λ (b : ℕ). span s a (length_of_code b) ≡ Some code) same are }

operand_is : (code regs : List ℕ) (address r1 x2 b2 d2 : ℕ) → reading code ≡ Some (instruction Ex (fields_at Ex code))
    → reading code ≡ Some (instruction Ex (Rx r1 x2 b2 d2)) → address ≡ effective regs x2 b2 d2 → operand_in regs code ≡ address
operand_is code regs address r1 x2 b2 d2 known reads is =
    let one : instruction Ex (fields_at Ex code) ≡ instruction Ex (Rx r1 x2 b2 d2) = cc in
    let same = sym (execute_fields code) ∙ ap (λ (i : Instruction). i.fields) one in
    let e1 : right_half code ≡ x2 = cc in
    let e2 : base_at 2 code ≡ b2 = cc in
    let e3 : displacement_at 2 code ≡ d2 = cc in
    rw (e1, e2, e3) (sym is)

has_target : IsKnown → IsOnly → (m : Machine) (address : ℕ) → LeadsTo m address → target_of m ≡ Some address
unfolding target_of
has_target known only m address l =
    let read = only l.code (instruction Ex (Rx l.r1 l.x2 l.b2 l.d2)) l.reads in
    let here = by_first m.storage m.next l.code (byte_at m.storage m.next) refl l.are (read.0 ∙ execute_code) in
    let whole = known l.code Ex read.0 read.1 in
    let is = operand_is l.code m.regs address l.r1 l.x2 l.b2 l.d2 whole l.reads l.is in
    rw (here.first, here.four) (ap (λ (a : ℕ). Some a) is)

pub targets_are_of_executes : IsKnown → IsOnly → TargetsAreOfExecutes
targets_are_of_executes known only m address = (λ e. leads_to known m address (target_parts m address e), λ l. has_target known only m address l)
