-- What is fetched of a spelled instruction.
use Rattle.std.proofs.Common.{◌≡◌, ℕ, ◌%◌, ◌^◌, ◌<◌, ◌≤◌, ◌==◌, zero, suc, false, List, ◌∷◌, length, take, slice_index, Option, Some, None, Result, Ok, Err, MatchResult, refl, sym, ap, ◌∙◌, arith}
use Rattle.std.specs.Option.{option_map, option_and_then}
use Rattle.std.proofs.lemmas.Bool.{ne_eqb}
use Rattle.std.proofs.lemmas.List.{length-take-le, get_or-take}
use Rattle.cx_storage.specs.Storage.{Storage, byte_at, span}
use Rattle.cx_storage.specs.Address.{address_after}
use Rattle.cx_storage.specs.Facts.Spans.{span_at, span_from, span_length}
use Rattle.cx_code.specs.declared.table.Op.{Op}
use Rattle.cx_code.specs.declared.table.Format.{Format}
use Rattle.cx_code.specs.declared.table.Format.TheVariants as form
use Rattle.cx_code.specs.Table.{format_of, length_of, length_of_format, length_of_code}
use Rattle.cx_code.specs.Spelling.{Instruction}
use Rattle.cx_code.specs.Reading.{reading}
use Rattle.cx_exec.specs.Fetch.{code_bytes, code_at, read_as}
use Rattle.cx_exec.specs.Machine.{Machine, effective}
use Rattle.cx_exec.specs.Step.{pending_instruction, updated_by, unless_interrupted, target_at, performed_of, instruction_to_perform, Runs}
use Rattle.cx_exec.specs.Rows.{Effect}
use Rattle.cx_exec.specs.Outcome.{Outcome, IsSuppressed}
use Rattle.cx_exec.specs.declared.machine.Interruption.{Interruption}
use Rattle.cx_code.specs.declared.table.Op.TheVariants as op
use Rattle.cx_code.specs.declared.instruction.Fields.TheVariants.{Rx}

-- the first byte of a span
pub first_byte : (s : Storage) (a n : ℕ) (bytes : List ℕ) → span s a n ≡ Some bytes → 0 < n → byte_at s a ≡ Some (slice_index bytes 0)
unfolding span
first_byte s a zero bytes e h = absurd (omega arith)
first_byte s a (suc n) bytes e h = go (byte_at s a) (span s (address_after a 1) n) e
  where
    go : (o : Option ℕ) (r : Option (List ℕ)) → option_and_then (λ b. option_map (λ bs. b ∷ bs) r) o ≡ Some bytes → o ≡ Some (slice_index bytes 0)
    go None r e = cc
    go (Some b) None e = cc
    go (Some b) (Some bs) e = let shape : b ∷ bs ≡ bytes = cc in rw (← shape) refl

pub code_there : (s : Storage) (a : ℕ) (bytes : List ℕ) → a % 2 ≡ 0 → 0 < length bytes → length_of_code (slice_index bytes 0) ≡ length bytes → span s a (length bytes) ≡ Some bytes
    → code_at s a ≡ Ok bytes
unfolding code_at
code_there s a bytes even some long there =
    let first = first_byte s a (length bytes) bytes there some in
    let odd : (a % 2 == 1) ≡ false = ne_eqb (a % 2) 1 (λ e. omega (arith, e, even)) in
    let whole : code_bytes s a ≡ Some bytes = rw (first, long) there in
    rw (odd, whole) refl

-- the first bytes of a span
pub span_front : (s : Storage) (a n m : ℕ) (bytes : List ℕ) → a < 2 ^ 24 → span s a n ≡ Some bytes → m ≤ n → span s a m ≡ Some (take m bytes)
span_front s a n m bytes low e h =
    let long = span_length s a n bytes e in
    span_from s a m (take m bytes) low (length-take-le m bytes (omega (arith, long, h)))
    (λ k l. span_at s a n bytes k low e (omega (arith, l, h)) ∙ ap Some (sym (get_or-take m bytes k 0 l)))

-- the instruction that eight bytes begin with
pub lent_is_code : (s : Storage) (a n : ℕ) (bytes : List ℕ) → a < 2 ^ 24 → span s a 8 ≡ Some bytes → n ≡ length_of_code (slice_index bytes 0) → n ≤ 8
    → code_bytes s a ≡ Some (take n bytes)
lent_is_code s a n bytes low there is short = rw (first_byte s a 8 bytes there (omega arith), ← is) (span_front s a 8 n bytes low there short)

pub reads_as : (bytes : List ℕ) (i : Instruction) → reading bytes ≡ Some i → read_as bytes ≡ Ok i
unfolding read_as
reads_as bytes i e = rw e refl

-- what was decoded, and its length
pub decoded : (read : Option Instruction) (i : Instruction) (n : ℕ) → ◌≡◌ {A = Option (Instruction × ℕ)} (Some (i, n)) (option_map (λ j. (j, length_of j.op)) read)
    → (read ≡ Some i) × (n ≡ length_of i.op)
decoded None i n e = cc
decoded (Some j) i n e =
    let pair : ◌≡◌ {A = Instruction × ℕ} (i, n) (j, length_of j.op) = cc in
    let same : i ≡ j = ap (λ p. p.0) pair in
    (ap Some (sym same), ap (λ p. p.1) pair ∙ rw same refl)

-- an instruction that eight bytes begin with is fetched and read where they lie
pub found_is_read : (s : Storage) (a : ℕ) (bytes : List ℕ) (i : Instruction) → a < 2 ^ 24 → a % 2 ≡ 0 → span s a 8 ≡ Some bytes
    → length_of_code (slice_index bytes 0) ≡ length_of i.op → length_of i.op ≤ 8 → reading (take (length_of i.op) bytes) ≡ Some i
    → (code_at s a ≡ Ok (take (length_of i.op) bytes)) × (read_as (take (length_of i.op) bytes) ≡ Ok i)
unfolding code_at
found_is_read s a bytes i low even there long short reads =
    let first = first_byte s a 8 bytes there (omega arith) in
    let odd : (a % 2 == 1) ≡ false = ne_eqb (a % 2) 1 (λ e. omega (arith, e, even)) in
    let whole : code_bytes s a ≡ Some (take (length_of i.op) bytes) = rw (first, long) (span_front s a 8 (length_of i.op) bytes low there short) in
    (rw (odd, whole) refl, reads_as (take (length_of i.op) bytes) i reads)

-- and performed, for EX its target
pub lent_is_performed : (m : Machine) (bytes : List ℕ) (i : Instruction) → m.next < 2 ^ 24 → m.next % 2 ≡ 0 → span m.storage m.next 8 ≡ Some bytes
    → length_of_code (slice_index bytes 0) ≡ length_of i.op → length_of i.op ≤ 8 → reading (take (length_of i.op) bytes) ≡ Some i
    → length (take (length_of i.op) bytes) ≡ length_of i.op
    → instruction_to_perform m ≡ performed_of m i (updated_by m.next (length_of i.op))
unfolding instruction_to_perform
lent_is_performed m bytes i low even there long short reads size =
    let found = found_is_read m.storage m.next bytes i low even there long short reads in
    rw (found.0, found.1, size) refl

-- an EX is performed by the effect of its target
pub executed_at : (m : Machine) (i : Instruction) (r1 x2 b2 d2 : ℕ) (outcome : Outcome) (after : Machine)
    → instruction_to_perform m ≡ performed_of m i (updated_by m.next (length_of i.op)) → length_of i.op ≡ 4 → i.op ≡ op.Ex → i.fields ≡ Rx r1 x2 b2 d2
    → MatchResult (target_at m r1 (effective m.regs x2 b2 d2)) (λ target. Effect target (record { length_code = 2; address = address_after m.next 4 }) m outcome after) (λ cause. IsSuppressed cause m outcome after)
    → Runs m outcome after
unfolding Runs
executed_at m i r1 x2 b2 d2 outcome after is long ex fields effect =
    let step : instruction_to_perform m ≡ unless_interrupted (target_at m r1 (effective m.regs x2 b2 d2)) (λ target. Ok (pending_instruction target (record { length_code = 2; address = address_after m.next 4 })))
    = is ∙ ap (λ n. performed_of m i (updated_by m.next n)) long ∙ rw (ex, fields) refl in
    rw step (run (target_at m r1 (effective m.regs x2 b2 d2)) effect)
  where
    run : (target : Result Instruction Interruption)
        → MatchResult target (λ t. Effect t (record { length_code = 2; address = address_after m.next 4 }) m outcome after) (λ cause. IsSuppressed cause m outcome after)
        → MatchResult (unless_interrupted target (λ t. Ok (pending_instruction t (record { length_code = 2; address = address_after m.next 4 })))) (λ d. Effect d.inst d.updated m outcome after) (λ cause. IsSuppressed cause m outcome after)
    run (Ok t) e = e
    run (Err cause) e = e

pub length_some : (bytes : List ℕ) (op : Op) → length bytes ≡ length_of op → 0 < length bytes
length_some bytes op e = some (format_of op) e
  where
    some : (format : Format) → length bytes ≡ length_of_format format → 0 < length bytes
    some form.Rr h = omega (arith, h)
    some form.Rx h = omega (arith, h)
    some form.Rs h = omega (arith, h)
    some form.Si h = omega (arith, h)
    some form.Ss h = omega (arith, h)
    some form.Ss2 h = omega (arith, h)
