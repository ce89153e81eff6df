-- The instructions that store a command's arguments (Application Programmer's Reference Manual, SC33-0077, the
-- expansion of a command; GC33-4010, "Machine Instructions"; the argument list is this product's own).
use Rattle.std.specs.Prelude.{◌≡◌, ℕ, ◌+◌, ◌*◌, Ok, List, [], ◌∷◌, ◌++◌, codes, decimal}
use Rattle.cx_code.specs.declared.table.Op.{Op}
use Rattle.cx_code.specs.declared.table.Op.TheVariants as op
use Rattle.cx_code.specs.declared.instruction.Fields.TheVariants.{Rr, Rx}
use Rattle.cx_code.specs.Spelling.{Instruction, instruction}
use Rattle.cx_source.specs.declared.source.Item.{Item}
use Rattle.cx_source.specs.declared.source.Stmt.{Stmt}
use Rattle.cx_translate.specs.Expansion.{made_item, stmt, stores}
use Rattle.cx_translate.specs.Sections.{lines}
use Rattle.cx_asm_pass1.specs.PassState.{state_after, place_in}
use Rattle.cx_asm_operands.specs.Bases.{Bases}
use Rattle.cx_asm_operands.specs.Context.{Context}
use Rattle.cx_asm_operands.specs.Storage.{indexed_in}
use Rattle.cx_asm_operands.specs.declared.addresses.Address.{Address}
use Rattle.cx_asm_pass2.specs.Statements.{placed_statement}
use Rattle.cx_asm_pass2.specs.Whole.{Whole, instruction_context}
use Rattle.cx_asm_execution.proofs.Resolved.{AreResolved}

-- what a made statement's operand is read by, after some lines, the latest first
abbrev pub context_of : Whole → Bases → ℕ → List Item → Stmt → Context
context_of whole bases line before statement = instruction_context whole bases (placed_statement line statement (place_in statement (state_after before)))

-- An instruction with a register and a storage operand, whose index, base and displacement are those that its text
-- resolves to.
pub record HasOperand (op : Op) (register : ℕ) (c : Context) (text : List ℕ) (made : Instruction) : Type 0 where
  pub index : ℕ
  pub address : Address
  pub operand : indexed_in c text ≡ Ok (index, address)
  pub is : made ≡ instruction op (Rx register index address.base address.displacement)

-- the statements of a store
abbrev pub load_of : List ℕ → Stmt
load_of argument = stmt [] (codes "LA") (codes "0," ++ argument)

abbrev pub word_of_list : ℕ → List ℕ
word_of_list k = codes "DFHEIPL+" ++ decimal (4 * k)

abbrev pub store_of : ℕ → Stmt
store_of k = stmt [] (codes "ST") (codes "0," ++ word_of_list k)

-- For each argument LA 0 of the argument's own operand, and ST 0 into its word, from word k on.
unfoldable pub AreStores : Whole → Bases → ℕ → List Item → ℕ → List (List ℕ) → List Instruction → Type 0
AreStores whole bases line before k [] [] = Unit {0}
AreStores whole bases line before k (argument ∷ list) (one ∷ other ∷ code) =
    HasOperand op.La 0 (context_of whole bases line before (load_of argument)) argument one
    × HasOperand op.St 0 (context_of whole bases line (made_item line (load_of argument) ∷ before) (store_of k)) (word_of_list k) other
    × AreStores whole bases line (made_item line (store_of k) ∷ made_item line (load_of argument) ∷ before) (k + 1) list code
AreStores whole bases line before k list code = ⊥

-- The stores made of an EXEC statement, resolved, are these.
abbrev pub StoresAreResolved : Type 0
StoresAreResolved = (whole : Whole) (bases : Bases) (line at k : ℕ) (before : List Item) (list : List (List ℕ)) (code : List Instruction)
    → AreResolved whole bases before at (lines line (stores k list)) code → AreStores whole bases line before k list code

-- LA 1 of the list, L 15 of the literal that holds the entry's address, BALR 14,15.
abbrev pub list_of_1 : Stmt
list_of_1 = stmt [] (codes "LA") (codes "1,DFHEIPL")

abbrev pub entry_in_15 : Stmt
entry_in_15 = stmt [] (codes "L") (codes "15,=V(DFHEI1)")

abbrev pub branch : List Stmt
branch = list_of_1 ∷ entry_in_15 ∷ stmt [] (codes "BALR") (codes "14,15") ∷ []

pub record IsBranch (whole : Whole) (bases : Bases) (line : ℕ) (before : List Item) (code : List Instruction) : Type 0 where
  pub list : Instruction
  pub entry : Instruction
  pub is : code ≡ list ∷ entry ∷ instruction op.Balr (Rr 14 15) ∷ []
  pub loads : HasOperand op.La 1 (context_of whole bases line before list_of_1) (codes "DFHEIPL") list
  pub takes : HasOperand op.L 15 (context_of whole bases line (made_item line list_of_1 ∷ before) entry_in_15) (codes "=V(DFHEI1)") entry

abbrev pub BranchIsResolved : Type 0
BranchIsResolved = (whole : Whole) (bases : Bases) (line at : ℕ) (before : List Item) (code : List Instruction)
    → AreResolved whole bases before at (lines line branch) code → IsBranch whole bases line before code
