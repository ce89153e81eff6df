-- The instructions that call a command (Application Programmer's Reference Manual, SC33-0077, the expansion of a
-- command; GC33-4010, "Machine Instructions"; the mark of the list's last word is this product's own).
use Rattle.std.specs.Prelude.{◌≡◌, ℕ, false, Ok, List, [], ◌∷◌, ◌++◌, codes}
use Rattle.cx_code.specs.declared.table.Op.{Op}
use Rattle.cx_code.specs.declared.table.Op.TheVariants as op
use Rattle.cx_code.specs.declared.instruction.Fields.TheVariants.{Si}
use Rattle.cx_code.specs.Spelling.{Instruction, instruction}
use Rattle.cx_source.specs.declared.source.Item.{Item}
use Rattle.cx_source.specs.declared.source.Stmt.{Stmt}
use Rattle.cx_translate.specs.Expansion.{call, made_item, stmt}
use Rattle.cx_translate.specs.Sections.{lines}
use Rattle.cx_asm_operands.specs.Bases.{Bases}
use Rattle.cx_asm_operands.specs.Context.{Context}
use Rattle.cx_asm_operands.specs.Storage.{plain_in}
use Rattle.cx_asm_operands.specs.declared.addresses.Address.{Address}
use Rattle.cx_asm_pass2.specs.Whole.{Whole}
use Rattle.cx_asm_execution.proofs.Resolved.{AreResolved}
use Rattle.cx_asm_execution.proofs.Stores.{IsBranch, context_of, word_of_list}

-- An instruction with a storage operand and an immediate byte, whose base and displacement are those that its text
-- resolves to.
pub record HasByte (op : Op) (byte : ℕ) (c : Context) (text : List ℕ) (made : Instruction) : Type 0 where
  pub address : Address
  pub operand : plain_in false c text ≡ Ok address
  pub is : made ≡ instruction op (Si byte address.base address.displacement)

-- the statement that marks word k as the last
abbrev pub mark_of : ℕ → Stmt
mark_of k = stmt [] (codes "OI") (word_of_list k ++ codes ",X'80'")

-- OI of 80 with word k's first byte, and the branch after it.
pub record IsCall (whole : Whole) (bases : Bases) (line : ℕ) (before : List Item) (k : ℕ) (code : List Instruction) : Type 0 where
  pub mark : Instruction
  pub branch : List Instruction
  pub is : code ≡ mark ∷ branch
  pub marks : HasByte op.Oi 0x80 (context_of whole bases line before (mark_of k)) (word_of_list k) mark
  pub calls : IsBranch whole bases line (made_item line (mark_of k) ∷ before) branch

-- The statements made to call a command, resolved, are these.
abbrev pub MarkIsResolved : Type 0
MarkIsResolved = (whole : Whole) (bases : Bases) (line at k : ℕ) (before : List Item) (code : List Instruction)
    → AreResolved whole bases before at (lines line (call k)) code → IsCall whole bases line before k code
