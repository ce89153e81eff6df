-- Where instructions, the items of DS and DC, and literals are in an assembly, and that nothing else is there
-- (GC33-4010, "Machine Instructions", "DC -- Define Constant", "DS -- Define Storage", "Literal Pool"; that they are
-- resolved lines is this product's own).
use Rattle.std.specs.Prelude.{◌≡◌, ◌⊎◌, ℕ, Bool, true, false, Option, Some, Ok, List, [], ◌∷◌, Contains, ⊤}
use Rattle.std.specs.List.{AllByRecursion, repeat}
use Rattle.cx_code.specs.declared.disassembly.Line.{Line}
use Rattle.cx_code.specs.declared.disassembly.LineContent.TheVariants.{Code}
use Rattle.cx_code.specs.Spelling.{Instruction as MadeInstruction}
use Rattle.cx_source.specs.declared.source.Source.{Source}
use Rattle.cx_asm_expressions.specs.Bytes.{CopyOfConstant}
use Rattle.cx_asm_expressions.specs.Items.{Constant, constant_in, size_of}
use Rattle.cx_asm_expressions.specs.declared.values.Value.{Value}
use Rattle.cx_asm_pools.specs.declared.closed.Literal.{Literal}
use Rattle.cx_asm_pass1.specs.Given.{location_counter}
use Rattle.cx_asm_pass1.specs.PassState.{is_control, role_in}
use Rattle.cx_asm_pass1.specs.declared.roles.Role.{Role}
use Rattle.cx_asm_pass1.specs.declared.roles.Role.TheVariants.{Instruction, Storage, Pool}
use Rattle.cx_asm_operations.specs.declared.operations.Operation.{Operation}
use Rattle.cx_asm_operands.specs.Bases.{Bases, none_in_use}
use Rattle.cx_asm_operands.specs.Forms.{instruction_or_fault}
use Rattle.cx_asm_pass2.specs.SecondFaults.{bases_after}
use Rattle.cx_asm_pass2.specs.Statements.{PlacedStatement, operation_of, placed_items, statements_of}
use Rattle.cx_asm_pass2.specs.Whole.{Whole, instruction_context, item_made, pool_of, whole_of}
use Rattle.cx_asm.specs.Assembly.{AssemblyParts, assembly_of}
use Rattle.cx_asm.specs.Resolving.{counter_at, data_line, last_pool, line, space_line}

-- ---- the line of an instruction, of an item and of a literal, with what holds of it
-- Where these bases are in use, the operation makes an instruction of its operand, which is a line at its offset.
pub record IsInstruction (Holds : List Line → Type 0) (whole : Whole) (bases : Bases)
    (s : PlacedStatement) : Type 0 where
  pub operation : Operation
  pub named : operation_of s ≡ Some operation
  pub made : MadeInstruction
  pub resolved : instruction_or_fault operation (instruction_context whole bases s) s.stmt.operand ≡ Ok made
  pub stands : Holds (line s.place.offset (Code made) ∷ [])

-- A DS's item is a constant; its bytes, if it has any, are a space at its offset.
pub record IsSpace (Holds : List Line → Type 0) (item : List ℕ × ℕ) : Type 0 where
  pub constant : Constant
  pub written : constant_in true item.0 ≡ Ok constant
  pub stands : Holds (space_line item.1 (size_of constant))

-- A DC's item is a constant with a value; the bytes of all its copies, if there are any, are a line at its offset.
pub record IsData (Holds : List Line → Type 0) (whole : Whole) (counter : Option Value)
    (item : List ℕ × ℕ) : Type 0 where
  pub constant : Constant
  pub written : constant_in false item.0 ≡ Ok constant
  pub once : CopyOfConstant
  pub value : item_made whole false counter item.0 ≡ Ok once
  pub stands : Holds (data_line item.1 (repeat constant.duplication once.bytes))

abbrev pub IsItem : (List Line → Type 0) → Whole → Bool → PlacedStatement → List ℕ × ℕ → Type 0
IsItem Holds whole true s item = IsSpace Holds item
IsItem Holds whole false s item = IsData Holds whole (location_counter s.place.section item.1 1) item

-- A literal is as a DC's item, at its offset in its pool.
abbrev pub IsLiteral : (List Line → Type 0) → Whole → List PlacedStatement → List ℕ × Literal → Type 0
IsLiteral Holds whole statements literal =
    IsData Holds whole (counter_at statements literal.1.user) (literal.0, literal.1.offset)

-- ---- they are among the resolved lines
abbrev pub AreAmong : List Line → List Line → Type 0
AreAmong resolved some = AllByRecursion (Contains resolved) some

-- A statement's instruction, the items of a DS or DC, and the literals that LTORG places, stand there.
abbrev pub RoleStands : Whole → List PlacedStatement → List Line → Bases → PlacedStatement → Role → Type 0
RoleStands whole statements resolved bases s (Instruction size) = IsInstruction (AreAmong resolved) whole bases s
RoleStands whole statements resolved bases s (Storage is_ds) =
    AllByRecursion (IsItem (AreAmong resolved) whole is_ds s) (placed_items s)
RoleStands whole statements resolved bases s Pool =
    AllByRecursion (IsLiteral (AreAmong resolved) whole statements) (pool_of whole s)
RoleStands whole statements resolved bases s role = ⊤

-- So it is with the statements of the control section, from one on, and the literals that no LTORG places.
abbrev pub StatementsStand : Whole → List PlacedStatement → List Line → Bases → List PlacedStatement → Type 0
StatementsStand whole statements resolved bases [] =
    AllByRecursion (IsLiteral (AreAmong resolved) whole statements) (last_pool whole)
StatementsStand whole statements resolved bases (s ∷ rest) =
    (is_control s.place.section whole.control ≡ true → RoleStands whole statements resolved bases s (role_in s.stmt))
    × StatementsStand whole statements resolved (bases_after whole bases s) rest

-- In an accepted source each of them stands.
abbrev pub AllStand : Type 0
AllStand = (source : Source) (made : AssemblyParts) → assembly_of source ≡ Ok made
    → StatementsStand (whole_of source) (statements_of source) made.section.resolved none_in_use (statements_of source)

-- ---- and nothing else is
-- it holds of one of a list
abbrev pub AnyByRecursion : {X : Type 0} → (X → Type 0) → List X → Type 0
AnyByRecursion P [] = ⊥
AnyByRecursion P (x ∷ xs) = P x ⊎ AnyByRecursion P xs

abbrev pub IsAmong : Line → List Line → Type 0
IsAmong one some = Contains some one

-- A line is of a statement's instruction, of an item of a DS or DC, or of a literal that LTORG places.
abbrev pub IsOfRole : Whole → List PlacedStatement → Line → Bases → PlacedStatement → Role → Type 0
IsOfRole whole statements one bases s (Instruction size) = IsInstruction (IsAmong one) whole bases s
IsOfRole whole statements one bases s (Storage is_ds) =
    AnyByRecursion (IsItem (IsAmong one) whole is_ds s) (placed_items s)
IsOfRole whole statements one bases s Pool =
    AnyByRecursion (IsLiteral (IsAmong one) whole statements) (pool_of whole s)
IsOfRole whole statements one bases s role = ⊥

-- It is so of one of the statements of the control section, from one on, or is of a literal that no LTORG places.
abbrev pub IsOfStatements : Whole → List PlacedStatement → Line → Bases → List PlacedStatement → Type 0
IsOfStatements whole statements one bases [] =
    AnyByRecursion (IsLiteral (IsAmong one) whole statements) (last_pool whole)
IsOfStatements whole statements one bases (s ∷ rest) =
    ((is_control s.place.section whole.control ≡ true) × IsOfRole whole statements one bases s (role_in s.stmt))
    ⊎ IsOfStatements whole statements one (bases_after whole bases s) rest

-- In an accepted source each resolved line is.
abbrev pub NothingElseStands : Type 0
NothingElseStands = (source : Source) (made : AssemblyParts) (one : Line) → assembly_of source ≡ Ok made
    → Contains made.section.resolved one
    → IsOfStatements (whole_of source) (statements_of source) one none_in_use (statements_of source)

-- ---- in the control section
abbrev pub MustBeInControl : Role → Type 0
MustBeInControl (Instruction size) = ⊤
MustBeInControl Pool = ⊤
MustBeInControl role = ⊥

-- In an accepted source each instruction and each LTORG is.
abbrev pub AreInControl : Type 0
AreInControl = (source : Source) (made : AssemblyParts) → assembly_of source ≡ Ok made
    → AllByRecursion
    (λ s. MustBeInControl (role_in s.stmt) → is_control s.place.section (whole_of source).control ≡ true)
    (statements_of source)
