-- The instructions made of an EXEC statement, as the assembler has resolved them (Application Programmer's Reference
-- Manual, SC33-0077, the expansion of a command; the instructions are those of GA22-7000; which ones are made, the
-- argument list and the block are this product's own).
use Rattle.std.specs.Prelude.{ℕ, ◌+◌, ◌/◌, ◌%◌, List, [], ◌∷◌, ◌++◌, flat_map, map, slice_index}
use Rattle.cx_base.specs.declared.commands.Command.{Command}
use Rattle.cx_base.specs.declared.legal.ListedCondition.{ListedCondition}
use Rattle.cx_base.specs.Commands.{row_of}
use Rattle.cx_storage.specs.Address.{address_in}
use Rattle.cx_code.specs.declared.table.Op.{Op}
use Rattle.cx_code.specs.declared.table.Op.TheVariants as op
use Rattle.cx_code.specs.declared.instruction.Fields.TheVariants.{Rr, Rx, Si}
use Rattle.cx_code.specs.Spelling.{Instruction, instruction}
use Rattle.cx_exec.specs.Machine.{effective}
use Rattle.cx_region_state.specs.Call.{Call}

-- an implied address, as resolved: a base register and a displacement
pub record ImpliedAddress : Type 0 where
  pub base : ℕ
  pub displacement : ℕ

-- an argument as it is given, by index, base and displacement (0 for a register that isn't given), and its word of the
-- list
pub record Argument : Type 0 where
  pub index : ℕ
  pub base : ℕ
  pub displacement : ℕ
  pub word : ImpliedAddress

-- A statement: its command, the option bytes and the conditions listed, which its block holds; where its block is, and
-- word 0, which takes the block's address; the arguments, in the order of their words; the last word, whose first
-- byte is marked; the list's first word; and the word that holds the entry's address.
pub record Statement : Type 0 where
  pub command : Command
  pub first : ℕ
  pub second : ℕ
  pub conditions : List ListedCondition
  pub block : ImpliedAddress
  pub head : ImpliedAddress
  pub arguments : List Argument
  pub last : ImpliedAddress
  pub list : ImpliedAddress
  pub entry : ImpliedAddress

-- what the words of the list hold: the block, whose address is handed over as an argument is, and the arguments
abbrev pub words_of_list : Statement → List Argument
words_of_list s =
    record { index = 0; base = s.block.base; displacement = s.block.displacement; word = s.head } ∷ s.arguments

-- an instruction with a register and an implied address
abbrev pub of_place : Op → ℕ → ImpliedAddress → Instruction
of_place op register place = instruction op (Rx register 0 place.base place.displacement)

-- LA 0 of the address and ST 0 into its word, for each of them
abbrev pub store_instructions : List Argument → List Instruction
store_instructions [] = []
store_instructions (a ∷ rest) =
    instruction op.La (Rx 0 a.index a.base a.displacement) ∷ of_place op.St 0 a.word ∷ store_instructions rest

-- OI of the last word's first byte with 80, LA 1 of the list, L 15 of the entry's address, BALR 14,15
abbrev pub branch : Statement → List Instruction
branch s =
    instruction op.Oi (Si 0x80 s.last.base s.last.displacement) ∷ of_place op.La 1 s.list ∷ of_place op.L 15 s.entry
    ∷ instruction op.Balr (Rr 14 15) ∷ []

-- the instructions made
unfoldable pub instructions_made : Statement → List Instruction
instructions_made s = store_instructions (words_of_list s) ++ branch s

-- the block: the function value, the option bytes, and two bytes for each condition
unfoldable pub resolved_block_bytes : Statement → List ℕ
resolved_block_bytes s =
    (row_of s.command).function / 256 ∷ (row_of s.command).function % 256 ∷ s.first ∷ s.second
    ∷ flat_map (λ listed. listed.number ∷ listed.label ∷ []) s.conditions

-- where an implied address reaches, with these registers: what the base register holds, and the displacement
abbrev pub address_reached : List ℕ → ImpliedAddress → ℕ
address_reached regs place = address_in (slice_index regs place.base + place.displacement)

-- the address of an argument, with these registers
abbrev pub argument_address : List ℕ → Argument → ℕ
argument_address regs a = effective regs a.index a.base a.displacement

-- the call that the statement asks for: its command, and the addresses that its arguments have with these registers
unfoldable pub call_made : List ℕ → Statement → Call
call_made regs s =
    record {
      command = s.command;
      first = s.first;
      second = s.second;
      conditions = s.conditions;
      places = map (argument_address regs) s.arguments;
    }
