-- The statement that an EXEC statement's made instructions are of (Application Programmer's Reference Manual,
-- SC33-0077, the expansion of a command; the instructions and the argument list are this product's own).
use Rattle.std.specs.Prelude.{◌≡◌, ℕ, ◌+◌, ◌-◌, false, Ok, List, [], ◌∷◌, ◌++◌, codes, length, reverse}
use Rattle.cx_asm_execution.specs.Expansion.{Argument, Statement, instructions_made, words_of_list}
use Rattle.cx_code.specs.Spelling.{Instruction}
use Rattle.cx_base.specs.declared.commands.Command.{Command}
use Rattle.cx_source.specs.declared.source.Item.{Item}
use Rattle.cx_source.specs.declared.source.Stmt.{Stmt}
use Rattle.cx_translate.specs.declared.words.Word.{Word}
use Rattle.cx_translate.specs.Call.{list_of, listed_of}
use Rattle.cx_translate.specs.Expansion.{made_item, stores}
use Rattle.cx_translate.specs.Refusals.{first_byte, second_byte}
use Rattle.cx_translate.specs.Sections.{lines}
use Rattle.cx_asm_operands.specs.Addresses.{address}
use Rattle.cx_asm_operands.specs.Bases.{Bases}
use Rattle.cx_asm_operands.specs.Storage.{indexed_in, plain_in}
use Rattle.cx_asm_pass2.specs.Whole.{Whole}
use Rattle.cx_asm_execution.proofs.Called.{call_statements}
use Rattle.cx_asm_execution.proofs.Calls.{mark_of}
use Rattle.cx_asm_execution.proofs.Resolved.{AreResolved}
use Rattle.cx_asm_execution.proofs.Stores.{context_of, entry_in_15, list_of_1, load_of, store_of, word_of_list}

-- index, base and displacement are what a storage operand of a made statement is resolved to
abbrev pub ResolvesTo : Whole → Bases → ℕ → List Item → Stmt → List ℕ → ℕ → ℕ → ℕ → Type 0
ResolvesTo whole bases line before statement text index base displacement =
    indexed_in (context_of whole bases line before statement) text ≡ Ok (index, address base displacement)

-- So are those of each argument, and without an index those of its word, from word k on.
unfoldable pub AreArguments : Whole → Bases → ℕ → List Item → ℕ → List (List ℕ) → List Argument → Type 0
AreArguments whole bases line before k [] [] = Unit {0}
AreArguments whole bases line before k (text ∷ list) (a ∷ arguments) =
    ResolvesTo whole bases line before (load_of text) text a.index a.base a.displacement
    × ResolvesTo whole bases line (made_item line (load_of text) ∷ before) (store_of k) (word_of_list k) 0 a.word.base a.word.displacement
    × AreArguments whole bases line (made_item line (store_of k) ∷ made_item line (load_of text) ∷ before) (k + 1) list arguments
AreArguments whole bases line before k list arguments = ⊥

-- the lines up to the end of the stores, the latest first, and those up to the mark and up to the list's address
abbrev pub after_stores : ℕ → List Item → Command → List Word → List Item
after_stores line before command words = reverse (lines line (stores 0 (list_of command words))) ++ before

abbrev pub last_word : Command → List Word → ℕ
last_word command words = length (list_of command words) - 1

abbrev pub after_mark : ℕ → List Item → Command → List Word → List Item
after_mark line before command words = made_item line (mark_of (last_word command words)) ∷ after_stores line before command words

abbrev pub after_list : ℕ → List Item → Command → List Word → List Item
after_list line before command words = made_item line list_of_1 ∷ after_mark line before command words

-- The statement of a command with these words, whose made statements come after these lines: what the translator has
-- put into the block, and what the operands are resolved to.
pub record IsStatementOf (whole : Whole) (bases : Bases) (line : ℕ) (before : List Item) (command : Command) (words : List Word) (s : Statement) : Type 0 where
  pub for_command : s.command ≡ command
  pub first : s.first ≡ first_byte command words
  pub second : s.second ≡ second_byte words
  pub conditions : s.conditions ≡ listed_of words
  pub arguments : AreArguments whole bases line before 0 (list_of command words) (words_of_list s)
  pub last : plain_in false (context_of whole bases line (after_stores line before command words) (mark_of (last_word command words)))
      (word_of_list (last_word command words)) ≡ Ok (address s.last.base s.last.displacement)
  pub list : ResolvesTo whole bases line (after_mark line before command words) list_of_1 (codes "DFHEIPL") 0 s.list.base s.list.displacement
  pub entry : ResolvesTo whole bases line (after_list line before command words) entry_in_15 (codes "=V(DFHEI1)") 0 s.entry.base s.entry.displacement

-- Instructions that are made of such a statement.
pub record AreMade (whole : Whole) (bases : Bases) (line : ℕ) (before : List Item) (command : Command) (words : List Word) (code : List Instruction) : Type 0 where
  pub statement : Statement
  pub is : IsStatementOf whole bases line before command words statement
  pub made : code ≡ instructions_made statement

-- The statements made to call a command, resolved, are these.
abbrev pub CallsAreMade : Type 0
CallsAreMade = (whole : Whole) (bases : Bases) (line at : ℕ) (before : List Item) (command : Command) (words : List Word) (code : List Instruction)
    → AreResolved whole bases before at (lines line (call_statements command words)) code → AreMade whole bases line before command words code
