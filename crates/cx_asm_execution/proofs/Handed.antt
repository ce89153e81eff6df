-- The literals that a command's call needs: the block, whose address is the first word of the list, and the entry's
-- address (Application Programmer's Reference Manual, SC33-0077, the expansion of a command; the block and the entry
-- are this product's own).
use Rattle.std.specs.Prelude.{◌≡◌, ℕ, Ok, Some, None, List, [], ◌∷◌, ◌++◌, codes, length, reverse}
use Rattle.cx_base.specs.declared.commands.Command.{Command}
use Rattle.cx_load.specs.Fault.{IsFit}
use Rattle.cx_load.specs.Program.{IsLoaded}
use Rattle.cx_load.specs.declared.program.Loaded.{Loaded}
use Rattle.cx_source.specs.declared.source.Item.{Item}
use Rattle.cx_source.specs.declared.source.Source.{Source}
use Rattle.cx_storage.specs.Address.{address_after}
use Rattle.cx_storage.specs.Storage.{Storage, span}
use Rattle.cx_translate.specs.declared.words.Word.{Word}
use Rattle.cx_translate.specs.Call.{block_bytes, block_literal}
use Rattle.cx_translate.specs.Expansion.{made_item}
use Rattle.cx_translate.specs.Refusals.{fault_in}
use Rattle.cx_asm_operands.specs.Bases.{Bases}
use Rattle.cx_asm_operands.specs.Context.{Context}
use Rattle.cx_asm_operands.specs.Storage.{indexed_in}
use Rattle.cx_asm_operands.specs.declared.addresses.Address.{Address}
use Rattle.cx_asm_pass2.specs.Whole.{whole_of}
use Rattle.cx_asm.specs.Assembly.{AssemblyParts, assembly_of}
use Rattle.cx_asm_execution.proofs.Literals.{StandsInSection}
use Rattle.cx_asm_execution.proofs.Stores.{context_of, entry_in_15, load_of}

-- the operand that loads the block's address
abbrev pub block_of : Command → List Word → List ℕ
block_of command words = block_literal (block_bytes command words)

-- The block of an accepted EXEC statement is in the control section where that operand says; `before` are the lines
-- before it, the latest first.
abbrev pub BlockStands : Type 0
BlockStands = (source : Source) (assembly : AssemblyParts) (bases : Bases) (number line : ℕ) (before later : List Item)
    (command : Command) (cics named words : List Word) (index : ℕ) (address : Address) → assembly_of source ≡ Ok assembly
    → fault_in line command cics named words ≡ None
    → source.items ≡ reverse before ++ made_item number (load_of (block_of command words)) ∷ later
    → indexed_in (context_of (whole_of source) bases number before (load_of (block_of command words))) (block_of command words) ≡ Ok (index, address)
    → StandsInSection source assembly (context_of (whole_of source) bases number before (load_of (block_of command words))) (block_bytes command words) index address

-- So is the word with the entry's address, 00000800.
abbrev pub EntryStands : Type 0
EntryStands = (source : Source) (assembly : AssemblyParts) (bases : Bases) (number : ℕ) (before later : List Item) (index : ℕ)
    (address : Address) → assembly_of source ≡ Ok assembly → source.items ≡ reverse before ++ made_item number entry_in_15 ∷ later
    → indexed_in (context_of (whole_of source) bases number before entry_in_15) (codes "=V(DFHEI1)") ≡ Ok (index, address)
    → StandsInSection source assembly (context_of (whole_of source) bases number before entry_in_15) (0 ∷ 0 ∷ 8 ∷ 0 ∷ []) index address

-- What is so in the section is in storage when the program is loaded.
abbrev pub LiteralsAreLoaded : Type 0
LiteralsAreLoaded = (source : Source) (assembly : AssemblyParts) (c : Context) (bytes : List ℕ) (index : ℕ) (address : Address)
    (storage after : Storage) (loaded : Loaded) → assembly_of source ≡ Ok assembly → IsFit assembly.section.image
    → IsLoaded storage assembly.section.image loaded after → (stands : StandsInSection source assembly c bytes index address)
    → span after (address_after loaded.at stands.offset) (length bytes) ≡ Some bytes
