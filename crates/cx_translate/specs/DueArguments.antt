-- Which argument is due with each word of a command (Application Programmer's Reference Manual, SC33-0077, the syntax
-- of each command; the table of options is that of cx_base).
use Rattle.std.specs.Prelude.{ℕ, Bool, true, false, ◌&&◌, List, Option, Some, None, is_some, if◌then◌else◌}
use Rattle.std.specs.List.{find}
use Rattle.std.specs.Option.{option_map, option_or}
use Rattle.std.specs.Str.{bytes_eq}
use Rattle.cx_base.specs.declared.commands.Command.{Command}
use Rattle.cx_base.specs.declared.conditions.Condition.{Condition}
use Rattle.cx_base.specs.declared.options.CommandOption.{CommandOption}
use Rattle.cx_base.specs.declared.options.CommonOption.TheVariants.{Nohandle, Resp}
use Rattle.cx_base.specs.declared.options.ArgumentKind.{ArgumentKind}
use Rattle.cx_base.specs.declared.options.ArgumentKind.TheVariants.{Flag, Name4, Name8}
use Rattle.cx_base.specs.Conditions.{entry_of, handled_conditions}
use Rattle.cx_base.specs.Options.{common_of, option_name}
use Rattle.cx_base.specs.Commands.{row_of}
use Rattle.cx_base.specs.Legal.{is_handle, lists_conditions}
use Rattle.cx_translate.specs.declared.due_arguments.DueArgument.{DueArgument}
use Rattle.cx_translate.specs.declared.due_arguments.DueArgument.TheVariants.{Nothing, Name, Value, Label}
use Rattle.cx_translate.specs.declared.words.Argument.{Argument}
use Rattle.cx_translate.specs.declared.words.Argument.TheVariants.{Absent, Given}
use Rattle.cx_translate.specs.Names.{is_name_or_place, is_value}

abbrev pub due_by_kind : ArgumentKind → DueArgument
due_by_kind Flag = Nothing
due_by_kind Name4 = Name 4
due_by_kind Name8 = Name 8
due_by_kind kind = Value

-- the option of this name among some, where one has it
unfoldable pub option_called : List CommandOption → List ℕ → Option CommandOption
option_called options name = find (λ option. bytes_eq (option_name option.name) name) options

-- the condition of this name that a program can handle, where one has it
unfoldable pub condition_called : List ℕ → Option Condition
condition_called name = find (λ condition. bytes_eq (entry_of condition).name name) handled_conditions

-- NOHANDLE and RESP, which every command may have
unfoldable pub common_due : List ℕ → Option DueArgument
common_due name =
    if bytes_eq (common_of Nohandle).name name then Some Nothing
    else (if bytes_eq (common_of Resp).name name then Some Value else None)

-- a condition's label, which HANDLE CONDITION alone may give
unfoldable pub condition_due : Command → List ℕ → Option DueArgument
condition_due command name =
    if lists_conditions command && is_some (condition_called name)
    then Some (if is_handle command then Label else Nothing) else None

-- what is due with a word of a command: None where the command has no such option
unfoldable pub due_of : Command → List ℕ → Option DueArgument
due_of command name =
    option_or (option_map (λ option. due_by_kind option.kind) (option_called (row_of command).options name))
    (option_or (common_due name) (condition_due command name))

-- what follows the word is what is due
unfoldable pub suits : DueArgument → Argument → Bool
suits Nothing Absent = true
suits (Name n) (Given text) = is_name_or_place n text
suits Value (Given text) = is_value text
suits Label Absent = true
suits Label (Given text) = is_value text
suits due argument = false
