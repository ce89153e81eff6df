-- Instructions in storage, each as it is spelled.
use Rattle.std.specs.Prelude.{reverse}
use Rattle.std.proofs.Common.{◌≡◌, ℕ, ◌+◌, true, Some, Ok, List, [], ◌∷◌, ◌++◌, length, refl, sym, ◌∙◌, subst}
use Rattle.std.specs.List.{AllByRecursion}
use Rattle.std.proofs.lemmas.List.{append_assoc}
use Rattle.cx_asm_execution.specs.Stands.{AreAt}
use Rattle.cx_code.specs.declared.disassembly.Line.{Line}
use Rattle.cx_code.specs.Spelling.{Instruction, IsWellFormed, spelling}
use Rattle.cx_code.specs.Table.{length_of}
use Rattle.cx_asm_image.specs.Resolved.{is_code}
use Rattle.cx_source.specs.declared.source.Item.{Item}
use Rattle.cx_source.specs.declared.source.Source.{Source}
use Rattle.cx_storage.specs.Address.{address_after}
use Rattle.cx_storage.specs.Storage.{Storage, span}
use Rattle.cx_asm_operations.specs.Operations.{base_row}
use Rattle.cx_asm_operations.specs.declared.operations.Operation.{Operation}
use Rattle.cx_asm_operands.specs.Bases.{Bases, none_in_use}
use Rattle.cx_asm_operands.specs.Context.{Context}
use Rattle.cx_asm_operands.specs.Forms.{instruction_or_fault}
use Rattle.cx_asm_pass2.specs.SecondFaults.{bases_after}
use Rattle.cx_asm_pass2.specs.Statements.{statements_of, PlacedStatement}
use Rattle.cx_asm_pass2.specs.Whole.{Whole, whole_of}
use Rattle.cx_asm.specs.Facts.Bases.{after_sixteen}
use Rattle.cx_asm_execution.proofs.CodeInStorage.{CodeIsLoaded}
use Rattle.cx_asm_execution.specs.Laws.Loaded.{NoCodeIsRelocated, IsUnrelocated, LinesAreLoaded, StandsAt}
use Rattle.cx_asm_execution.specs.MadeLines.{code_lines}
use Rattle.cx_asm_execution.proofs.Resolved.{AreResolved, bases_from, bases_in_use}
use Rattle.cx_asm_execution.proofs.LoadedLemmas.{along_twice}

-- ---- sixteen bases
from_sixteen : (whole : Whole) (bases : Bases) (ss : List PlacedStatement) → length bases ≡ 16 → length (bases_from whole bases ss) ≡ 16
from_sixteen whole bases [] e = e
from_sixteen whole bases (s ∷ ss) e = from_sixteen whole (bases_after whole bases s) ss (after_sixteen whole bases s e)

pub in_use_sixteen : (source : Source) (first : List Item) → length (bases_in_use source first) ≡ 16
in_use_sixteen source first = from_sixteen (whole_of source) none_in_use (statements_of (record { items = first })) refl

-- ---- well-formed instructions at their places
abbrev pub Forms : Type 0
Forms = (o : Operation) (c : Context) (operand : List ℕ) (made : Instruction) → length c.bases ≡ 16 → instruction_or_fault o c operand ≡ Ok made
    → (base_row o ≡ Some made.op) × IsWellFormed made

abbrev pub Sizes : Type 0
Sizes = (i : Instruction) → IsWellFormed i → length (spelling i) ≡ length_of i.op

abbrev AreLoaded : Storage → ℕ → List ℕ → List Line → Type 0
AreLoaded after at relocs lines = AllByRecursion (λ l. IsUnrelocated relocs l → StandsAt after at l) lines

abbrev AreClear : List ℕ → List Line → Type 0
AreClear relocs lines = AllByRecursion (λ l. is_code l.what ≡ true → IsUnrelocated relocs l) lines

all_at : Forms → Sizes → (whole : Whole) (bases : Bases) (sixteen : length bases ≡ 16) (before items : List Item) (code : List Instruction) (at place : ℕ) (back : List Line) (after : Storage) (relocs : List ℕ)
    → AreResolved whole bases before at items code → AreLoaded after place relocs (code_lines at code ++ back) → AreClear relocs (code_lines at code ++ back) → AreAt after (address_after place at) code
unfolding AreResolved AreAt code_lines
all_at forms sizes whole bases sixteen before [] [] at place back after relocs r loaded clear = tt
all_at forms sizes whole bases sixteen before [] (i ∷ code) at place back after relocs r loaded clear = absurd r
all_at forms sizes whole bases sixteen before (item ∷ items) [] at place back after relocs r loaded clear = absurd r
all_at forms sizes whole bases sixteen before (item ∷ items) (i ∷ code) at place back after relocs r loaded clear =
    let one = r.0 in
    let formed : IsWellFormed i = (forms one.operation _ one.statement.operand i sixteen one.resolves).1 in
    let stands : span after (address_after place at) (length (spelling i)) ≡ Some (spelling i) = loaded.0 (clear.0 refl) in
    let rest = all_at forms sizes whole bases sixteen (item ∷ before) items code (at + length_of i.op) place back after relocs r.1 loaded.1 clear.1 in (
      formed,
      subst (λ n. span after (address_after place at) n ≡ Some (spelling i)) (sizes i formed) stands,
      subst (λ n. AreAt after n code) (sym (along_twice place at (length_of i.op))) rest,
    )

pub after_front : (P : Line → Type 0) (front rest : List Line) → AllByRecursion P (front ++ rest) → AllByRecursion P rest
after_front P [] rest all = all
after_front P (l ∷ front) rest all = after_front P front rest all.1

pub code_loaded : Forms → Sizes → LinesAreLoaded → NoCodeIsRelocated → CodeIsLoaded
code_loaded forms sizes lines clear source assembly first items storage after loaded accepts fit done code =
    let relocs = assembly.section.image.relocs in
    let split = code.stand ∙ append_assoc code.front (code_lines code.at code.code) code.back in
    let all : AreLoaded after loaded.at relocs assembly.section.resolved = lines source assembly storage after loaded accepts fit done in
    let none : AreClear relocs assembly.section.resolved = clear source assembly accepts in
    all_at forms sizes (whole_of source) (bases_in_use source first) (in_use_sixteen source first) (reverse first) items code.code code.at loaded.at code.back after relocs code.resolved
    (after_front (λ l. IsUnrelocated relocs l → StandsAt after loaded.at l) code.front (code_lines code.at code.code ++ code.back) (subst (AreLoaded after loaded.at relocs) split all))
    (after_front (λ l. is_code l.what ≡ true → IsUnrelocated relocs l) code.front (code_lines code.at code.code ++ code.back) (subst (AreClear relocs) split none))
