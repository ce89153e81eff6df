-- The instructions of an accepted source are well formed, and its lines come back.
use Rattle.std.specs.Prelude.{Result, Ok, Err, ◌==◌}
use Rattle.std.specs.List.{repeat}
use Rattle.std.specs.Option.{option_map_or}
use Rattle.std.specs.Result.{result_ok}
use Rattle.std.proofs.Common.{◌≡◌, ◌≤◌, ℕ, Bool, true, false, cond, Option, Some, None, List, [], ◌∷◌, ◌++◌, map, length, refl, ◌∙◌, subst}
use Rattle.cx_code.specs.declared.disassembly.Line.{Line}
use Rattle.cx_code.specs.declared.disassembly.LineContent.TheVariants.{Code, Space}
use Rattle.cx_code.specs.Lines.{lines}
use Rattle.cx_code.specs.Spelling.{Instruction as Made_instruction, IsWellFormed}
use Rattle.cx_source.specs.declared.source.Source.{Source}
use Rattle.cx_asm_expressions.specs.Bytes.{CopyOfConstant}
use Rattle.cx_asm_expressions.specs.Items.{Constant, constant_in, size_of as constant_size}
use Rattle.cx_asm_expressions.specs.declared.faults.FaultKind.{FaultKind}
use Rattle.cx_asm_pools.specs.Pools.{PlacedLiterals}
use Rattle.cx_asm_pass1.specs.Given.{location_counter}
use Rattle.cx_asm_pass1.specs.PassState.{is_control, role_in}
use Rattle.cx_asm_pass1.specs.Locations.{final_state}
use Rattle.cx_asm_pass1.specs.declared.roles.Role.{Role}
use Rattle.cx_asm_pass1.specs.declared.roles.Role.TheVariants.{Unknown, Instruction, Control, Dummy, Equate, Storage, Pool, Registers, Member, Nothing}
use Rattle.cx_asm_operations.specs.Operations.{base_row}
use Rattle.cx_asm_operations.specs.declared.operations.Operation.{Operation}
use Rattle.cx_asm_operands.specs.Bases.{Bases, none_in_use}
use Rattle.cx_asm_operands.specs.Context.{Context}
use Rattle.cx_asm_operands.specs.Forms.{instruction_or_fault}
use Rattle.cx_asm_image.specs.Laws.Cover.{AreWellFormed}
use Rattle.cx_asm_image.specs.Resolved.{AreApart}
use Rattle.cx_asm_image.specs.Spans.{span_of}
use Rattle.cx_asm_image.specs.Text.{section_text}
use Rattle.cx_asm_pass2.specs.SecondFaults.{bases_after}
use Rattle.cx_asm_pass2.specs.Statements.{PlacedStatement, operation_of, placed_items, statements_of}
use Rattle.cx_asm_pass2.specs.Whole.{Whole, instruction_context, item_made, pool_of, whole_of}
use Rattle.cx_asm.specs.Assembly.{AssemblyParts, assembly_of, section_of, control_section_size, standing_of}
use Rattle.cx_asm.specs.Facts.Accepted.{accepted}
use Rattle.cx_asm.specs.Facts.Bases.{after_sixteen}
use Rattle.cx_asm.specs.Laws.SectionLines.{IsWithin}
use Rattle.cx_asm.specs.Resolving.{constant_standing, counter_at, data_line, data_standing, instruction_standing, item_standing, items_standing, last_pool, line, empty_section, pool_standing, role_standing, space_standing, standing_from, statement_standing}
use Rattle.cx_asm_laws.specs.Laws.Back.{ComesBack, LinesAreResolved}

abbrev pub Resolves : Type 0
Resolves = (o : Operation) (c : Context) (operand : List ℕ) (made : Made_instruction) → length c.bases ≡ 16 → instruction_or_fault o c operand ≡ Ok made
    → (base_row o ≡ Some made.op) × IsWellFormed made

joined_sound : (one other : List Line) → AreWellFormed one → AreWellFormed other → AreWellFormed (one ++ other)
joined_sound [] other h k = k
joined_sound (l ∷ one) other h k = (h.0, joined_sound one other h.1 k)

data_sound : (at : ℕ) (bytes : List ℕ) → AreWellFormed (data_line at bytes)
data_sound at [] = tt
data_sound at (byte ∷ bytes) = (tt, tt)

constant_sound : (at : ℕ) (item : Result Constant FaultKind) (made : Result CopyOfConstant FaultKind) → AreWellFormed (constant_standing at item made).lines
constant_sound at (Ok item) (Ok made) = data_sound at (repeat item.duplication made.bytes)
constant_sound at (Ok item) (Err fault) = tt
constant_sound at (Err fault) made = tt

spaced_sound : (is_none : Bool) (at size : ℕ) → AreWellFormed (cond is_none [] (line at (Space size) ∷ []))
spaced_sound true at size = tt
spaced_sound false at size = (tt, tt)

space_sound : (at : ℕ) (item : Result Constant FaultKind) → AreWellFormed (space_standing at item).lines
space_sound at (Ok item) = spaced_sound (constant_size item == 0) at (constant_size item)
space_sound at (Err fault) = tt

item_sound : (whole : Whole) (is_ds : Bool) (s : PlacedStatement) (item : List ℕ × ℕ) → AreWellFormed (item_standing whole is_ds s item).lines
item_sound whole true s item = space_sound item.1 (constant_in true item.0)
item_sound whole false s item = constant_sound item.1 (constant_in false item.0) (item_made whole false (location_counter s.place.section item.1 1) item.0)

items_sound : (whole : Whole) (is_ds : Bool) (s : PlacedStatement) (items : List (List ℕ × ℕ)) → AreWellFormed (items_standing whole is_ds s items).lines
items_sound whole is_ds s [] = tt
items_sound whole is_ds s (item ∷ items) =
    joined_sound (item_standing whole is_ds s item).lines (items_standing whole is_ds s items).lines (item_sound whole is_ds s item) (items_sound whole is_ds s items)

pool_sound : (whole : Whole) (statements : List PlacedStatement) (pool : PlacedLiterals) → AreWellFormed (pool_standing whole statements pool).lines
pool_sound whole statements [] = tt
pool_sound whole statements (e ∷ pool) =
    joined_sound (data_standing whole (counter_at statements e.1.user) e.0 e.1.offset).lines (pool_standing whole statements pool).lines
    (constant_sound e.1.offset (constant_in false e.0) (item_made whole false (counter_at statements e.1.user) e.0)) (pool_sound whole statements pool)

module _ (resolves : Resolves) (whole : Whole) (statements : List PlacedStatement) where
  instruction_sound : (at : ℕ) (result : Result Made_instruction FaultKind) → ((made : Made_instruction) → result ≡ Ok made → IsWellFormed made)
      → AreWellFormed (option_map_or (λ made. line at (Code made) ∷ []) (result_ok result) [])
  instruction_sound at (Ok made) h = (h made refl, tt)
  instruction_sound at (Err fault) h = tt

  operation_sound : (bases : Bases) → length bases ≡ 16 → (s : PlacedStatement) (o : Option Operation) → AreWellFormed (option_map_or (instruction_standing whole bases s) o empty_section).lines
  operation_sound bases sixteen s None = tt
  operation_sound bases sixteen s (Some o) =
      instruction_sound s.place.offset (instruction_or_fault o (instruction_context whole bases s) s.stmt.operand)
      (λ made e. (resolves o (instruction_context whole bases s) s.stmt.operand made sixteen e).1)

  role_sound : (bases : Bases) → length bases ≡ 16 → (s : PlacedStatement) (role : Role) → AreWellFormed (role_standing whole statements bases s role).lines
  role_sound bases sixteen s (Instruction size) = operation_sound bases sixteen s (operation_of s)
  role_sound bases sixteen s (Storage is_ds) = items_sound whole is_ds s (placed_items s)
  role_sound bases sixteen s Pool = pool_sound whole statements (pool_of whole s)
  role_sound bases sixteen s Unknown = tt
  role_sound bases sixteen s Control = tt
  role_sound bases sixteen s Dummy = tt
  role_sound bases sixteen s Equate = tt
  role_sound bases sixteen s Registers = tt
  role_sound bases sixteen s Member = tt
  role_sound bases sixteen s Nothing = tt

  statement_sound : (bases : Bases) → length bases ≡ 16 → (s : PlacedStatement) → AreWellFormed (statement_standing whole statements bases s).lines
  unfolding statement_standing
  statement_sound bases sixteen s = within (is_control s.place.section whole.control)
    where
      within : (is : Bool) → AreWellFormed (cond is (role_standing whole statements bases s (role_in s.stmt)) empty_section).lines
      within true = role_sound bases sixteen s (role_in s.stmt)
      within false = tt

  from_sound : (bases : Bases) → length bases ≡ 16 → (rest : List PlacedStatement) → AreWellFormed (standing_from whole statements bases rest).lines
  from_sound bases sixteen [] = pool_sound whole statements (last_pool whole)
  from_sound bases sixteen (s ∷ rest) =
      joined_sound (statement_standing whole statements bases s).lines (standing_from whole statements (bases_after whole bases s) rest).lines
      (statement_sound bases sixteen s) (from_sound (bases_after whole bases s) (after_sixteen whole bases s sixteen) rest)

source_sound : Resolves → (source : Source) → AreWellFormed (standing_of source).lines
unfolding standing_of
source_sound resolves source = from_sound resolves (whole_of source) (statements_of source) none_in_use refl (statements_of source)

-- an accepted source's resolved lines are those in its control section
pub resolved_is : (source : Source) (made : AssemblyParts) → assembly_of source ≡ Ok made → (standing_of source).lines ≡ made.section.resolved
unfolding section_of
resolved_is source made e = subst (λ (m : AssemblyParts). (standing_of source).lines ≡ m.section.resolved) (accepted source made e).made_is refl

pub comes_back : ((source : Source) → (final_state source).fault ≡ None → control_section_size source ≤ 65536 → IsWithin 0 (standing_of source) (control_section_size source))
    → ((resolved : List Line) (size : ℕ) → AreApart 0 resolved size → AreWellFormed resolved → lines (section_text resolved size) (map span_of resolved) ≡ resolved)
    → Resolves → ComesBack
unfolding section_of
comes_back within back resolves source made e =
    let is = accepted source made e in
    subst (λ (m : AssemblyParts). lines m.section.image.text m.section.spans ≡ (standing_of source).lines) is.made_is
    (back (standing_of source).lines (control_section_size source) (within source is.sound is.short).lines (source_sound resolves source))

pub lines_are_resolved : ComesBack → LinesAreResolved
lines_are_resolved back source made e = back source made e ∙ resolved_is source made e
