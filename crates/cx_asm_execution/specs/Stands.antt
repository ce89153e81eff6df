-- What is assumed of a machine that is about to perform the instructions made of an EXEC statement (this project's
-- own).
use Rattle.std.specs.Prelude.{◌≡◌, ◌≢◌, ℕ, ◌+◌, ◌*◌, ◌%◌, ◌^◌, ◌<◌, ◌≤◌, List, [], ◌∷◌, length, count_by, sum_by, Some, is_some, true, MatchBool, IsTrue, if◌then◌else◌, ⊤}
use Rattle.std.specs.List.{AllByRecursion, enumerate_from}
use Rattle.cx_base.specs.declared.eistg.EistgField.TheVariants.{Eipl}
use Rattle.cx_base.specs.Arguments.{arguments_in}
use Rattle.cx_base.specs.Commands.{row_of}
use Rattle.cx_base.specs.Eistg.{eistg_field}
use Rattle.cx_base.specs.Legal.{is_legal, is_legal_list, lists_conditions}
use Rattle.cx_storage.specs.Storage.{Storage, span, IsSoundStorage}
use Rattle.cx_storage.specs.Address.{address_after, distance}
use Rattle.cx_storage.specs.Word.{word_at}
use Rattle.cx_code.specs.Table.{length_of}
use Rattle.cx_code.specs.Spelling.{Instruction, IsWellFormed, spelling}
use Rattle.cx_exec.specs.Machine.{Machine}
use Rattle.cx_exec.specs.Step.{entry}
use Rattle.cx_region_state.specs.Call.{has_label, has_resp}
use Rattle.cx_asm_execution.specs.Expansion.{ImpliedAddress, Statement, instructions_made, words_of_list, resolved_block_bytes, address_reached}

-- What every processor and store are: sixteen registers, an address below 2^24, and areas that don't meet.
pub record IsMachine (m : Machine) : Type 0 where
  pub regs : length m.regs ≡ 16
  pub next : m.next < 2 ^ 24
  pub storage : IsSoundStorage m.storage

-- The block is that of a legal call with as many arguments as the statement has.
pub record IsLegal (s : Statement) : Type 0 where
  pub options : IsTrue (is_legal s.command s.first s.second)
  pub conditions : MatchBool (lists_conditions s.command)
      ((s.first ≡ length s.conditions) × IsTrue (is_legal_list s.command s.conditions))
      (s.conditions ≡ [])
  pub count : length s.arguments ≡ length (arguments_in (row_of s.command).options s.first)
      + count_by has_label s.conditions + (if has_resp s.second then 1 else 0)

-- the spellings of well-formed instructions are in storage from an address on, one after the other
unfoldable pub AreAt : Storage → ℕ → List Instruction → Type 0
AreAt s a [] = ⊤
AreAt s a (i ∷ rest) =
    IsWellFormed i × (span s a (length_of i.op) ≡ Some (spelling i)) × AreAt s (address_after a (length_of i.op)) rest

-- The instructions are at the next address, the block at its place, and the entry's address in its word.
pub record StandsInStorage (m : Machine) (s : Statement) : Type 0 where
  pub instructions : AreAt m.storage m.next (instructions_made s)
  pub block : span m.storage (address_reached m.regs s.block) (length (resolved_block_bytes s))
      ≡ Some (resolved_block_bytes s)
  pub entry : word_at m.storage (address_reached m.regs s.entry) ≡ Some entry

-- a base register and a displacement reach word k of the list at an address; register 0 is no base
abbrev pub IsWord : List ℕ → ℕ → ℕ → ImpliedAddress → Type 0
IsWord regs list k place = (place.base ≢ 0) × (address_reached regs place ≡ address_after list (4 * k))

-- The base registers of what is made around the arguments are not 0, and that of the entry's word is not 1, which gets
-- the list's address before; and with what they hold, each word of the list is reached.
pub record IsListAddressed (m : Machine) (s : Statement) : Type 0 where
  pub block : s.block.base ≢ 0
  pub words : AllByRecursion (λ e. IsWord m.regs (address_reached m.regs s.list) e.0 e.1.word)
      (enumerate_from 0 (words_of_list s))
  pub last : IsWord m.regs (address_reached m.regs s.list) (length s.arguments) s.last
  pub list : s.list.base ≢ 0
  pub entry : s.entry.base ≢ 0
  pub other : s.entry.base ≢ 1

-- the length of DFHEIPL in bytes, and that none of n bytes from an address on lies in it
abbrev pub list_length : ℕ
list_length = (eistg_field Eipl).len

abbrev pub IsApart : ℕ → ℕ → ℕ → Type 0
IsApart list a n = (k : ℕ) → k < n → list_length ≤ distance list (address_after a k)

-- how many bytes instructions have
abbrev pub code_length : List Instruction → ℕ
code_length code = sum_by (λ i. length_of i.op) code

-- The instructions have even addresses, and none of them is at the entry: the k-th of them is 4k bytes after the
-- first. DFHEIPL is in storage and has room for the list, and no byte of the instructions, of the block or of the
-- entry's word lies in it.
pub record IsClear (m : Machine) (s : Statement) : Type 0 where
  pub even : m.next % 2 ≡ 0
  pub outside : (k : ℕ) → k < length (instructions_made s) → address_after m.next (4 * k) ≢ entry
  pub there : is_some (span m.storage (address_reached m.regs s.list) list_length) ≡ true
  pub room : 4 * length (words_of_list s) ≤ list_length
  pub code : IsApart (address_reached m.regs s.list) m.next (code_length (instructions_made s))
  pub block : IsApart (address_reached m.regs s.list) (address_reached m.regs s.block) (length (resolved_block_bytes s))
  pub entry : IsApart (address_reached m.regs s.list) (address_reached m.regs s.entry) 4
