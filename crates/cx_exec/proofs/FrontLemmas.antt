-- Instructions in bytes that are lent: what is fetched, and their fields in the front that is kept of them.
use Rattle.std.proofs.Common.{◌≡◌, ℕ, ◌+◌, ◌*◌, ◌/◌, ◌%◌, bit_or, slice_set, ◌^◌, ◌<◌, ◌≤◌, ◌==◌, ◌++◌, zero, suc, Bool, true, false, List, [], ◌∷◌, length, take, slice_index, get_or, Option, Some, None, Ok, MatchResult, refl, sym, ap, ◌∙◌, arith, if◌then◌else◌}
use Rattle.std.specs.Option.{option_map}
use Rattle.std.proofs.lemmas.List.{length-take-le, get_or-take}
use Rattle.std.specs.Int.{byte_at, w32, w64, to_le_bytes, from_le_bytes, swap_bytes}
use Rattle.std.proofs.lemmas.Nat.{le_bytes_8}
use native.Mathlib.Nat as nat
use Rattle.byteorder.specs.Endian.{big_bytes}
use Rattle.byteorder.specs.Numbers.{big_from-take}
use Rattle.cx_storage.specs.Storage.{span}
use Rattle.cx_storage.specs.Address.{address_after}
use Rattle.cx_storage.specs.Facts.Spans.{span_length}
use Rattle.cx_code.specs.declared.table.Op.{Op}
use Rattle.cx_code.specs.declared.table.Op.TheVariants as op
use Rattle.cx_code.specs.declared.table.Format.{Format}
use Rattle.cx_code.specs.declared.table.Format.TheVariants as form
use Rattle.cx_code.specs.declared.instruction.Fields.{Fields}
use Rattle.cx_code.specs.Table.{operation_row, code_of, format_of, length_of, length_of_format, length_of_code, is_shift}
use Rattle.cx_code.specs.declared.instruction.Fields.TheVariants.{Rr, Rx, Rs, Si, Ss, Ss2}
use Rattle.cx_code.specs.Spelling.{Instruction, instruction, format_with, r3_of, IsWellFormed}
use Rattle.cx_code.specs.Reading.{left_half, right_half, base_at, displacement_at, decoded_fields, fields_at, reading, without_r3}
use Rattle.cx_exec.specs.Fetch.{read_as}
use Rattle.cx_exec.specs.declared.machine.Updated.{Updated}
use Rattle.cx_exec.specs.Machine.{Machine, reg, effective}
use Rattle.cx_exec.specs.Outcome.{Outcome, IsSuppressed}
use Rattle.cx_exec.specs.Rows.{Effect}
use Rattle.cx_exec.specs.Step.{is_execute, updated_by, joined_second, changed_copy, not_execute, unless_interrupted, target_at, performed_of, instruction_to_perform, Runs}
use Rattle.cx_exec.proofs.FetchLemmas.{found_is_read, lent_is_performed, reads_as, executed_at}

-- the two bytes of a number, each of them given
bytes_2 : (n a b : ℕ) → a < 256 → b < 256 → n ≡ a * 256 + b → big_bytes 2 n ≡ a ∷ b ∷ []
bytes_2 n a b p q e =
    let e1 : byte_at 1 n ≡ a = omega arith in
    let e0 : byte_at 0 n ≡ b = omega arith in
    cc

-- the front of a byte and two halfwords
pub front_made : (second x y : ℕ) → x < 65536 → y < 65536
    → take 6 (0 ∷ second ∷ (x / 256) ∷ (x % 256) ∷ (y / 256) ∷ (y % 256) ∷ 0 ∷ 0 ∷ []) ≡ 0 ∷ second ∷ (big_bytes 2 x ++ big_bytes 2 y)
front_made second x y low also =
    let first : big_bytes 2 x ≡ (x / 256) ∷ (x % 256) ∷ [] = bytes_2 x (x / 256) (x % 256) (omega (arith, low)) (omega arith) (omega arith) in
    let rest : big_bytes 2 y ≡ (y / 256) ∷ (y % 256) ∷ [] = bytes_2 y (y / 256) (y % 256) (omega (arith, also)) (omega arith) (omega arith) in
    sym (ap (λ (l : List ℕ). 0 ∷ second ∷ (l ++ big_bytes 2 y)) first ∙ ap (λ (l : List ℕ). 0 ∷ second ∷ (x / 256) ∷ (x % 256) ∷ l) rest)

-- a byte joined to the second one of eight
pub front_joined : (b : List ℕ) (low : ℕ) → length b ≡ 8 → take 6 (slice_set b 1 (bit_or (slice_index b 1) low)) ≡ joined_second low (take 6 b)
front_joined (b0 ∷ b1 ∷ rest) low h = refl
front_joined _ low h = absurd (omega (arith, h))

-- the front of eight bytes that are kept as a number
pub front_of : (b : List ℕ) (w : ℕ) → length b ≡ 8 → ((i : ℕ) → get_or b i 0 < 256) → w ≡ from_le_bytes w64 b → take 6 (to_le_bytes w64 w) ≡ take 6 b
front_of b w h small is = ap (take 6) (le_bytes_8 b w h small is)

-- the numbers in it
pub code_back : (w : ℕ) → w % 256 ≡ slice_index (take 6 (to_le_bytes w64 w)) 0
code_back w = omega arith

pub first_base_back : (w : ℕ) → w / 1048576 % 16 ≡ base_at 2 (take 6 (to_le_bytes w64 w))
first_base_back w = omega (arith, nat.div-div-eq-div-mul w 65536 16)

pub first_displacement_back : (w : ℕ) → swap_bytes w32 (w % 4294967296) % 4096 ≡ displacement_at 2 (take 6 (to_le_bytes w64 w))
first_displacement_back w = omega arith

pub second_base_back : (w : ℕ) → w / 68719476736 % 16 ≡ base_at 4 (take 6 (to_le_bytes w64 w))
second_base_back w = omega (arith, nat.div-div-eq-div-mul w 4294967296 16)

pub second_displacement_back : (w : ℕ) → swap_bytes w32 (w / 65536 % 4294967296) % 4096 ≡ displacement_at 4 (take 6 (to_le_bytes w64 w))
second_displacement_back w = omega (arith, nat.div-div-eq-div-mul w 65536 65536, nat.div-div-eq-div-mul w 65536 16777216)

-- the fields of a row are in its own bytes
fields_front : (f : Format) (n : ℕ) (b : List ℕ) → length_of_format f ≤ n → decoded_fields f (take n b) ≡ decoded_fields f b
unfolding decoded_fields
fields_front form.Rr n b h = rw (get_or-take n b 1 0 (omega (arith, h))) refl
fields_front form.Rx n b h = rw (get_or-take n b 1 0 (omega (arith, h)), big_from-take 2 2 n b (omega (arith, h))) refl
fields_front form.Rs n b h = rw (get_or-take n b 1 0 (omega (arith, h)), big_from-take 2 2 n b (omega (arith, h))) refl
fields_front form.Si n b h = rw (get_or-take n b 1 0 (omega (arith, h)), big_from-take 2 2 n b (omega (arith, h))) refl
fields_front form.Ss n b h = rw (get_or-take n b 1 0 (omega (arith, h)), big_from-take 2 2 n b (omega (arith, h)), big_from-take 4 2 n b (omega (arith, h))) refl
fields_front form.Ss2 n b h = rw (get_or-take n b 1 0 (omega (arith, h)), big_from-take 2 2 n b (omega (arith, h)), big_from-take 4 2 n b (omega (arith, h))) refl

at_front : (op : Op) (n : ℕ) (b : List ℕ) → length_of op ≤ n → fields_at op (take n b) ≡ fields_at op b
unfolding fields_at
at_front op n b h = ap (λ (f : Fields). if is_shift op then without_r3 f else f) (fields_front (format_of op) n b h)

pub some_few : (f : Format) → (0 < length_of_format f) × (length_of_format f ≤ 6)
some_few form.Rr = (omega arith, omega arith)
some_few form.Rx = (omega arith, omega arith)
some_few form.Rs = (omega arith, omega arith)
some_few form.Si = (omega arith, omega arith)
some_few form.Ss = (omega arith, omega arith)
some_few form.Ss2 = (omega arith, omega arith)

-- what the reading of an instruction gives, as the table's laws say it
abbrev pub KnownByCode : Type 0
KnownByCode = (bytes : List ℕ) (op : Op) → slice_index bytes 0 ≡ code_of op → length_of op ≤ length bytes → reading bytes ≡ Some (instruction op (fields_at op bytes))

abbrev pub LongByCode : Type 0
LongByCode = (op : Op) → length_of_code (code_of op) ≡ length_of op

-- a row is read in its own bytes of eight, with the fields of the first six
row_is_read : (op : Op) (b : List ℕ) → KnownByCode → length b ≡ 8 → slice_index b 0 ≡ code_of op
    → reading (take (length_of op) b) ≡ Some (instruction op (fields_at op (take 6 b)))
row_is_read op b known h first =
    let few = some_few (format_of op) in
    let size : length (take (length_of op) b) ≡ length_of op = length-take-le (length_of op) b (omega (arith, h, few.1)) in
    let code : slice_index (take (length_of op) b) 0 ≡ code_of op = get_or-take (length_of op) b 0 0 few.0 ∙ first in
    let same : fields_at op (take (length_of op) b) ≡ fields_at op (take 6 b) = at_front op (length_of op) b (omega arith) ∙ sym (at_front op 6 b few.1) in
    known (take (length_of op) b) op code (omega (arith, size)) ∙ ap (λ (f : Fields). Some (instruction op f)) same

-- the eight bytes that a front is of
pub spanned : (o : Option (List ℕ)) (prefix : List ℕ) → option_map (take 6) o ≡ Some prefix → (b : List ℕ) × (o ≡ Some b) × (prefix ≡ take 6 b)
spanned None prefix e = cc
spanned (Some b) prefix e = let same : take 6 b ≡ prefix = cc in (b, refl, sym same)

-- and performed so at the next address
pub lent_performed : (m : Machine) (op : Op) (prefix : List ℕ) → KnownByCode → LongByCode → m.next < 2 ^ 24 → m.next % 2 ≡ 0
    → option_map (take 6) (span m.storage m.next 8) ≡ Some prefix → slice_index prefix 0 ≡ code_of op
    → instruction_to_perform m ≡ performed_of m (instruction op (fields_at op prefix)) (updated_by m.next (length_of op))
lent_performed m op prefix known long low even lent code =
    let got = spanned (span m.storage m.next 8) prefix lent in
    let b = got.0 in
    let there = got.1 in
    let same = got.2 in
    let h = span_length m.storage m.next 8 b there in
    let few = (some_few (format_of op)).1 in
    let first : slice_index b 0 ≡ code_of op = sym (get_or-take 6 b 0 0 (omega arith)) ∙ rw (← same) code in
    rw same
    (lent_is_performed m b (instruction op (fields_at op (take 6 b))) low even there (ap length_of_code first ∙ long op) (omega (arith, few)) (row_is_read op b known h first)
    (length-take-le (length_of op) b (omega (arith, h, few))))

-- a joined byte is in the front as in the bytes
joined_front : (low n : ℕ) (b : List ℕ) → joined_second low (take n b) ≡ take n (joined_second low b)
joined_front low zero b = refl
joined_front low (suc zero) [] = refl
joined_front low (suc zero) (x ∷ []) = refl
joined_front low (suc zero) (x ∷ y ∷ rest) = refl
joined_front low (suc (suc n)) [] = refl
joined_front low (suc (suc n)) (x ∷ []) = refl
joined_front low (suc (suc n)) (x ∷ y ∷ rest) = refl

joined_length : (low : ℕ) (b : List ℕ) → length (joined_second low b) ≡ length b
joined_length low [] = refl
joined_length low (x ∷ []) = refl
joined_length low (x ∷ y ∷ rest) = refl

joined_first : (low : ℕ) (b : List ℕ) → slice_index (joined_second low b) 0 ≡ slice_index b 0
joined_first low [] = refl
joined_first low (x ∷ []) = refl
joined_first low (x ∷ y ∷ rest) = refl

copy_read : (i : Instruction) (b : List ℕ) → is_execute i.op ≡ false → reading b ≡ Some i → unless_interrupted (read_as b) not_execute ≡ Ok i
copy_read i b plain is = rw (reads_as b i is, plain) refl

copied_length : (m : Machine) (r1 : ℕ) (b : List ℕ) → length (changed_copy m r1 b) ≡ length b
copied_length m r1 b = go (r1 == 0)
  where
    go : (none : Bool) → length (if none then b else joined_second (reg m r1 % 256) b) ≡ length b
    go true = refl
    go false = joined_length (reg m r1 % 256) b

copied_first : (m : Machine) (r1 : ℕ) (b : List ℕ) → slice_index (changed_copy m r1 b) 0 ≡ slice_index b 0
copied_first m r1 b = go (r1 == 0)
  where
    go : (none : Bool) → slice_index (if none then b else joined_second (reg m r1 % 256) b) 0 ≡ slice_index b 0
    go true = refl
    go false = joined_first (reg m r1 % 256) b

copied_front : (m : Machine) (r1 n : ℕ) (b : List ℕ) → changed_copy m r1 (take n b) ≡ take n (changed_copy m r1 b)
copied_front m r1 n b = go (r1 == 0)
  where
    go : (none : Bool) → (if none then take n b else joined_second (reg m r1 % 256) (take n b)) ≡ take n (if none then b else joined_second (reg m r1 % 256) b)
    go true = refl
    go false = joined_front (reg m r1 % 256) n b

-- the target of an EX that eight lent bytes begin with, from its changed copy
pub lent_target : (m : Machine) (r1 a : ℕ) (op : Op) (plain prefix : List ℕ) → KnownByCode → LongByCode → a < 2 ^ 24 → a % 2 ≡ 0
    → option_map (take 6) (span m.storage a 8) ≡ Some plain → prefix ≡ changed_copy m r1 plain → slice_index prefix 0 ≡ code_of op → is_execute op ≡ false
    → target_at m r1 a ≡ Ok (instruction op (fields_at op prefix))
unfolding target_at
lent_target m r1 a op plain prefix known long low even lent changed code execute =
    let got = spanned (span m.storage a 8) plain lent in
    let b = got.0 in
    let there = got.1 in
    let same : prefix ≡ changed_copy m r1 (take 6 b) = changed ∙ ap (changed_copy m r1) got.2 in
    let h = span_length m.storage a 8 b there in
    let few = (some_few (format_of op)).1 in
    let first : slice_index b 0 ≡ code_of op = sym (copied_first m r1 (take 6 b) ∙ get_or-take 6 b 0 0 (omega arith)) ∙ rw (← same) code in
    let found = found_is_read m.storage a b (instruction op (fields_at op (take 6 b))) low even there (ap length_of_code first ∙ long op) (omega (arith, few)) (row_is_read op b known h first) in
    let is : reading (take (length_of op) (changed_copy m r1 b)) ≡ Some (instruction op (fields_at op (take 6 (changed_copy m r1 b))))
    = row_is_read op (changed_copy m r1 b) known (copied_length m r1 b ∙ h) (copied_first m r1 b ∙ first) in
    let whole : reading (changed_copy m r1 (take (length_of op) b)) ≡ Some (instruction op (fields_at op prefix))
    = ap reading (copied_front m r1 (length_of op) b) ∙ is ∙ ap (λ (x : List ℕ). Some (instruction op (fields_at op x))) (sym (same ∙ copied_front m r1 6 b)) in
    rw found.0 (copy_read (instruction op (fields_at op prefix)) (changed_copy m r1 (take (length_of op) b)) execute whole)

-- an EX at the next address is performed by the effect of its target
pub lent_executes : (m after : Machine) (prefix : List ℕ) (outcome : Outcome) (r1 a : ℕ)
    → instruction_to_perform m ≡ performed_of m (instruction op.Ex (fields_at op.Ex prefix)) (updated_by m.next (length_of op.Ex))
    → r1 ≡ left_half prefix → a ≡ effective m.regs (right_half prefix) (base_at 2 prefix) (displacement_at 2 prefix)
    → MatchResult (target_at m r1 a) (λ target. Effect target (record { length_code = 2; address = address_after m.next 4 }) m outcome after) (λ cause. IsSuppressed cause m outcome after)
    → Runs m outcome after
unfolding fields_at decoded_fields operation_row is_shift
lent_executes m after prefix outcome r1 a is left operand effect =
    executed_at m (instruction op.Ex (fields_at op.Ex prefix)) (left_half prefix) (right_half prefix) (base_at 2 prefix) (displacement_at 2 prefix) outcome after is refl refl refl
    (rw (← left, ← operand) effect)

no_r3 : (f : Fields) → r3_of f ≡ 0 → without_r3 f ≡ f
no_r3 (Rr r1 r2) h = refl
no_r3 (Rx r1 x2 b2 d2) h = refl
no_r3 (Rs r1 r3 b2 d2) h = rw h refl
no_r3 (Si i2 b1 d1) h = refl
no_r3 (Ss l b1 d1 b2 d2) h = refl
no_r3 (Ss2 l1 l2 b1 d1 b2 d2) h = refl

-- a front that has an instruction's fields has them in its row
fields_made : (i : Instruction) (b : List ℕ) → IsWellFormed i → decoded_fields (format_with i.fields) b ≡ i.fields → fields_at i.op b ≡ i.fields
unfolding fields_at IsWellFormed
fields_made i b formed e =
    let same : decoded_fields (format_of i.op) b ≡ i.fields = rw (← formed.0) e in
    rw same (go (is_shift i.op) formed.2)
  where
    go : (shift : Bool) → (shift ≡ true → r3_of i.fields ≡ 0) → (if shift then without_r3 i.fields else i.fields) ≡ i.fields
    go true h = no_r3 i.fields (h refl)
    go false h = refl

pub made_effect : (i : Instruction) (b : List ℕ) (updated : Updated) (m : Machine) (outcome : Outcome) (after : Machine)
    → IsWellFormed i → decoded_fields (format_with i.fields) b ≡ i.fields → Effect (instruction i.op (fields_at i.op b)) updated m outcome after → Effect i updated m outcome after
made_effect i b updated m outcome after formed e effect =
    let same : instruction i.op (fields_at i.op b) ≡ i = ap (λ (f : Fields). instruction i.op f) (fields_made i b formed e) in
    rw (← same) effect
