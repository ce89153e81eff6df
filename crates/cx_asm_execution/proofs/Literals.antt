-- Where the literals of instructions are in an assembly (OS/VS-DOS/VSE-VM/370 Assembler Language, GC33-4010,
-- "Literals", "Literal Pool"; that they are resolved lines is this product's own).
use Rattle.std.specs.Prelude.{◌≡◌, ℕ, pos, ◌<◌, true, false, Ok, Option, Some, List, ◌∷◌, ◌++◌, length, reverse, codes}
use Rattle.std.specs.List.{repeat}
use Rattle.cx_code.specs.declared.disassembly.Line.{Line}
use Rattle.cx_code.specs.declared.disassembly.LineContent.TheVariants.{Data}
use Rattle.cx_source.specs.declared.source.Item.{Item}
use Rattle.cx_source.specs.declared.source.Source.{Source}
use Rattle.cx_source.specs.declared.source.Stmt.{Stmt}
use Rattle.cx_asm_expressions.specs.Bytes.{copy_of_constant}
use Rattle.cx_asm_expressions.specs.Items.{Constant, constant_in}
use Rattle.cx_asm_expressions.specs.declared.values.Value.{Value}
use Rattle.cx_asm_pass1.specs.PassState.{role_in}
use Rattle.cx_asm_operands.specs.Bases.{Bases}
use Rattle.cx_asm_operands.specs.Context.{Context}
use Rattle.cx_asm_operands.specs.Forms.{literal_in}
use Rattle.cx_asm_operands.specs.Storage.{indexed_in}
use Rattle.cx_asm_operands.specs.declared.addresses.Address.{Address}
use Rattle.cx_asm_pass2.specs.Whole.{Whole, item_made, whole_of}
use Rattle.cx_asm.specs.Resolving.{line}
use Rattle.cx_asm.specs.Assembly.{AssemblyParts, assembly_of}
use Rattle.cx_asm_execution.specs.Laws.Loaded.{IsUnrelocated}
use Rattle.cx_asm_execution.proofs.Resolved.{is_instruction_role}
use Rattle.cx_asm_execution.proofs.Stores.{context_of}
use Rattle.cx_asm_execution.proofs.Words.{LiesAfter}

-- A literal's text, after its equals sign, and the bytes of all its copies: at each place the same ones, and no word
-- that loading raises.
pub record HasBytes (whole : Whole) (text bytes : List ℕ) : Type 0 where
  pub constant : Constant
  pub written : constant_in false text ≡ Ok constant
  pub once : List ℕ
  pub everywhere : (counter : Option Value) → item_made whole false counter text ≡ Ok (copy_of_constant once false)
  pub all : repeat constant.duplication once ≡ bytes

-- An instruction's statement on a line of a source; `before` are the lines before it, the latest first.
pub record HasInstruction (source : Source) (before : List Item) (number : ℕ) (s : Stmt) : Type 0 where
  pub item : Item
  pub after : List Item
  pub is : source.items ≡ reverse before ++ item ∷ after
  pub numbered : item.line ≡ number
  pub begins : item.stmt ≡ Some s
  pub role : is_instruction_role (role_in s) ≡ true

-- The index, base and displacement that a literal is resolved to: there is no index; base and displacement give the
-- address of an offset in the control section; and a constant with these bytes is there, which no word that loading
-- raises reaches.
pub record StandsInSection (source : Source) (assembly : AssemblyParts) (c : Context) (bytes : List ℕ) (index : ℕ) (address : Address) : Type 0 where
  pub none : index ≡ 0
  pub section : List ℕ
  pub control : (whole_of source).control ≡ Some section
  pub offset : ℕ
  pub lies : LiesAfter c section (pos offset) 0 address
  pub front : List Line
  pub back : List Line
  pub stands : assembly.section.resolved ≡ front ++ line offset (Data bytes) ∷ back
  pub unraised : IsUnrelocated assembly.section.image.relocs (line offset (Data bytes))

-- So is every literal that an instruction of an accepted source has as its last operand.
abbrev pub LiteralsStand : Type 0
LiteralsStand = (source : Source) (assembly : AssemblyParts) (bases : Bases) (number : ℕ) (before : List Item) (s : Stmt)
    (text bytes : List ℕ) (index : ℕ) (address : Address) → assembly_of source ≡ Ok assembly → HasInstruction source before number s
    → literal_in s.operand ≡ Some (codes "=" ++ text) → HasBytes (whole_of source) text bytes → 0 < length bytes
    → indexed_in (context_of (whole_of source) bases number before s) (codes "=" ++ text) ≡ Ok (index, address)
    → StandsInSection source assembly (context_of (whole_of source) bases number before s) bytes index address
