-- What storage holds as it was loaded.
use Rattle.std.specs.Option.{option_map}
use Rattle.std.proofs.Common.{◌≡◌, ◌≤◌, ◌<◌, ℕ, ◌+◌, ◌^◌, ◌%◌, Some, List, [], ◌∷◌, ◌++◌, length, ◌∙◌, ap, subst, arith}
use Rattle.std.proofs.lemmas.List.{append_assoc}
use Rattle.std.proofs.lemmas.List.Sums.{sum_by-cons}
use Rattle.byteorder.specs.Endian.{big_number}
use Rattle.cx_asm_execution.specs.Stands.{AreAt, code_length}
use Rattle.cx_code.specs.declared.disassembly.Line.{Line}
use Rattle.cx_code.specs.declared.disassembly.LineContent.TheVariants.{Code}
use Rattle.cx_code.specs.Spelling.{Instruction, spelling}
use Rattle.cx_code.specs.Table.{length_of}
use Rattle.cx_asm_image.specs.Assembled.{AssembledParts}
use Rattle.cx_asm_image.specs.Resolved.{AreApart, offset_after}
use Rattle.cx_storage.specs.Address.{address_after}
use Rattle.cx_storage.specs.Laws.Spans.{SpanIsBytes}
use Rattle.cx_storage.specs.Place.{CanPlace, IsLeastPlace}
use Rattle.cx_storage.specs.Storage.{Storage, span}
use Rattle.cx_storage.specs.Word.{word_at}
use Rattle.cx_asm.specs.Resolving.{line}
use Rattle.cx_asm_execution.specs.Arrival.{AreKept}
use Rattle.cx_asm_execution.specs.MadeLines.{code_lines}
use Rattle.cx_asm_execution.proofs.InStorage.{HasText}

-- ---- spans
pub span_kept : SpanIsBytes → (s t : Storage) (a n : ℕ) (bytes : List ℕ) → a < 2 ^ 24 → AreKept s t a n → span s a n ≡ Some bytes → span t a n ≡ Some bytes
span_kept spans s t a n bytes small kept e =
    let whole = (spans s a n bytes small).0 e in
    (spans t a n bytes small).1 (whole.0, λ k less. kept k less ∙ whole.1 k less)

pub word_kept : SpanIsBytes → (s t : Storage) (a : ℕ) → a < 2 ^ 24 → AreKept s t a 4 → span s a 4 ≡ Some (0 ∷ 0 ∷ 8 ∷ 0 ∷ []) → word_at t a ≡ Some 2048
unfolding word_at
word_kept spans s t a small kept e = ap (option_map (big_number 4)) (span_kept spans s t a 4 (0 ∷ 0 ∷ 8 ∷ 0 ∷ []) small kept e)

kept_after : (s t : Storage) (a m n : ℕ) → AreKept s t a (m + n) → AreKept s t (address_after a m) n
kept_after s t a m n kept = λ k less.
    let at : address_after (address_after a m) k ≡ address_after a (m + k) = omega arith in
    rw at (kept (m + k) (omega (arith, less)))

kept_front : (s t : Storage) (a m n : ℕ) → AreKept s t a (m + n) → AreKept s t a m
kept_front s t a m n kept = λ k less. kept k (omega (arith, less))

pub code_kept : SpanIsBytes → (s t : Storage) (a : ℕ) (code : List Instruction) → a < 2 ^ 24 → AreKept s t a (code_length code) → AreAt s a code → AreAt t a code
unfolding AreAt
code_kept spans s t a [] small kept stands = tt
code_kept spans s t a (i ∷ code) small kept stands =
    let all : AreKept s t a (length_of i.op + code_length code) = subst (AreKept s t a) (sum_by-cons (λ (x : Instruction). length_of x.op) i code) kept in (
      stands.0,
      span_kept spans s t a (length_of i.op) (spelling i) small (kept_front s t a (length_of i.op) (code_length code) all) stands.1,
      code_kept spans s t (address_after a (length_of i.op)) code (omega arith) (kept_after s t a (length_of i.op) (code_length code) all) stands.2,
    )

-- ---- where code is
ends : (rest : List Line) (at size : ℕ) → AreApart at rest size → at ≤ size
ends [] at size a = a
ends (l ∷ rest) at size a = (let more = ends rest (offset_after l) size a.1 in let first = a.0 in omega (arith, more, first))

first_within : (from : ℕ) (front : List Line) (l : Line) (back : List Line) (size : ℕ) → AreApart from (front ++ l ∷ back) size → l.at ≤ size
first_within from [] l back size apart = (let more = ends back (offset_after l) size apart.1 in omega (arith, more))
first_within from (f ∷ front) l back size apart = first_within (offset_after f) front l back size apart.1

pub code_within : (parts : AssembledParts) (front back : List Line) (at : ℕ) (i : Instruction) (code : List Instruction) → HasText parts
    → parts.resolved ≡ front ++ code_lines at (i ∷ code) ++ back → at ≤ 65536
unfolding code_lines
code_within parts front back at i code is stand =
    let apart : AreApart 0 (front ++ (line at (Code i) ∷ (code_lines (at + length_of i.op) code ++ back))) (length parts.image.text) =
    subst (λ k. AreApart 0 k (length parts.image.text)) (stand ∙ append_assoc front (code_lines at (i ∷ code)) back) is.apart in
    let within = first_within 0 front (line at (Code i)) (code_lines (at + length_of i.op) code ++ back) (length parts.image.text) apart in
    let short = is.short in
    omega (arith, within, short)

-- ---- where programs are loaded
pub record IsPlaced (at : ℕ) : Type 0 where
  pub even : at % 16 ≡ 0
  pub low : 65536 ≤ at
  pub high : at ≤ 2097152

pub is_placed : (storage : Storage) (size at : ℕ) → IsLeastPlace storage 65536 2097151 size (Some at) → IsPlaced at
unfolding IsLeastPlace CanPlace
is_placed storage size at least =
    let ends = least.0.2 in
    let begins = least.0.1 in
    record { even = least.0.0; low = begins; high = omega (arith, ends) }
