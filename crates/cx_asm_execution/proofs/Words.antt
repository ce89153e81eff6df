-- Where the words of a command's argument list lie (Application Programmer's Reference Manual, SC33-0077, the expansion
-- of a command; GC33-4010, "Addressing"; the argument list is this product's own).
use Rattle.std.specs.Prelude.{◌≡◌, ◌≢◌, ℕ, ℤ, ◌*◌, ◌<◌, false, Ok, Option, Some, List, codes}
use Rattle.cx_storage.specs.Address.{address_after}
use Rattle.cx_exec.specs.Machine.{effective}
use Rattle.cx_asm_expressions.specs.TermValues.{look_up}
use Rattle.cx_asm_expressions.specs.declared.values.Value.{Value}
use Rattle.cx_asm_operands.specs.Context.{Context}
use Rattle.cx_asm_operands.specs.Storage.{indexed_in, plain_in}
use Rattle.cx_asm_operands.specs.declared.addresses.Address.{Address}
use Rattle.cx_asm_execution.specs.Arguments.{HoldsBase, Sections}
use Rattle.cx_asm_execution.proofs.Stores.{word_of_list}

-- In a table of symbols the list's symbol stands for a place in a section.
pub record HasList (find : List ℕ → Option Value) (section : List ℕ) (offset : ℤ) : Type 0 where
  pub length : ℕ
  pub known : look_up find (codes "DFHEIPL") ≡ Some (record { section = Some section; number = offset; length = length })

pub record HasSomeList (find : List ℕ → Option Value) : Type 0 where
  pub section : List ℕ
  pub offset : ℤ
  pub is : HasList find section offset

-- So it does where LA of the list has been resolved with a base register other than 0.
abbrev pub ListIsPlaced : Type 0
ListIsPlaced = (c : Context) (x : ℕ) (address : Address) → indexed_in c (codes "DFHEIPL") ≡ Ok (x, address) → address.base ≢ 0 → HasSomeList c.find

-- Whatever the sections' places and the registers are, base and displacement give the address n bytes after that of
-- an offset in a section, where the base register that was taken holds its USING's base.
abbrev pub LiesAfter : Context → List ℕ → ℤ → ℕ → Address → Type 0
LiesAfter c section offset n address = (sections : Sections) (regs : List ℕ) → HoldsBase sections regs c.bases address.base
    → effective regs 0 address.base address.displacement ≡ address_after (sections.place section offset) n

-- So do those that a text is resolved to as an operand of the format RX, without an index, and of the format SI.
pub record LieAfter (c : Context) (section : List ℕ) (offset : ℤ) (n : ℕ) (text : List ℕ) : Type 0 where
  pub indexed : (x : ℕ) (address : Address) → indexed_in c text ≡ Ok (x, address) → (x ≡ 0) × LiesAfter c section offset n address
  pub plain : (address : Address) → plain_in false c text ≡ Ok address → LiesAfter c section offset n address

-- The list itself lies at its symbol's place, and each of its words four bytes after the one before it.
abbrev pub ListLies : Type 0
ListLies = (c : Context) (section : List ℕ) (offset : ℤ) → HasList c.find section offset → LieAfter c section offset 0 (codes "DFHEIPL")

abbrev pub WordsLie : Type 0
WordsLie = (c : Context) (section : List ℕ) (offset : ℤ) (k : ℕ) → k < 18 → HasList c.find section offset
    → LieAfter c section offset (4 * k) (word_of_list k)
