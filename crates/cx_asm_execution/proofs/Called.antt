-- The statements made to call a command.
use Rattle.std.specs.Prelude.{◌≡◌, ℕ, ◌-◌, Some, List, ◌++◌, length}
use Rattle.cx_base.specs.declared.commands.Command.{Command}
use Rattle.cx_source.specs.declared.source.Stmt.{Stmt}
use Rattle.cx_asm_expressions.specs.Names.{symbol_name}
use Rattle.cx_translate.specs.declared.words.Word.{Word}
use Rattle.cx_translate.specs.Call.{list_of}
use Rattle.cx_translate.specs.Expansion.{call, stores}
use Rattle.cx_asm_pass1.specs.Given.{location_counter}
use Rattle.cx_asm_pass2.specs.Whole.{Whole}

-- the stores of the words, then the call with the last word's mark
abbrev pub call_statements : Command → List Word → List Stmt
call_statements command words = stores 0 (list_of command words) ++ call (length (list_of command words) - 1)

-- a name stands for an offset in the control section, with the length of a halfword
abbrev pub StandsFor : Whole → List ℕ → ℕ → Type 0
StandsFor whole name at = (symbol : List ℕ) → symbol_name name ≡ Some symbol → whole.find symbol ≡ location_counter whole.control at 2
