-- What an accepted EXEC statement hands over: the words of its argument list as operands (Application Programmer's
-- Reference Manual, SC33-0077, the syntax of each command; the argument list is this product's own).
use Rattle.std.specs.Prelude.{ℕ, ◌/◌, ◌%◌, true, List, [], ◌∷◌, ◌++◌, Option, Some, None, codes, if◌then◌else◌, is_some}
use Rattle.std.specs.List.{flat_map}
use Rattle.std.specs.Option.{option_to_list, option_and, option_map}
use Rattle.std.specs.Fmt.{digit_glyph}
use Rattle.std.specs.Str.{bytes_eq}
use Rattle.cx_base.specs.declared.commands.Command.{Command}
use Rattle.cx_base.specs.declared.conditions.Condition.{Condition}
use Rattle.cx_base.specs.declared.legal.ListedCondition.{ListedCondition}
use Rattle.cx_base.specs.declared.options.CommandOption.{CommandOption}
use Rattle.cx_base.specs.declared.options.CommonOption.TheVariants.{Resp}
use Rattle.cx_base.specs.declared.options.ArgumentKind.{ArgumentKind}
use Rattle.cx_base.specs.declared.options.ArgumentKind.TheVariants.{Pointer, Name4, Name8}
use Rattle.cx_base.specs.Conditions.{entry_of}
use Rattle.cx_base.specs.Options.{common_of, option_name}
use Rattle.cx_base.specs.Commands.{row_of}
use Rattle.cx_translate.specs.declared.words.Argument.{Argument}
use Rattle.cx_translate.specs.declared.words.Argument.TheVariants.{Given}
use Rattle.cx_translate.specs.declared.words.Word.{Word}
use Rattle.cx_translate.specs.Names.{bare_argument, is_quoted}
use Rattle.cx_translate.specs.DueArguments.{condition_called}
use Rattle.cx_translate.specs.Refusals.{first_byte, second_byte}

abbrev pub text_in : Argument → Option (List ℕ)
text_in (Given text) = Some text
text_in argument = None

-- the argument of the word of this name, where both are there
abbrev pub argument_of : List Word → List ℕ → Option (List ℕ)
argument_of [] name = None
argument_of (word ∷ rest) name = if bytes_eq word.name name then text_in word.argument else argument_of rest name

-- a name in apostrophes becomes a literal of its full length
abbrev pub name_operand : List ℕ → List ℕ → List ℕ
name_operand literal text = if is_quoted text then literal ++ bare_argument text else text

-- what the argument of an option is in the list: a pointer comes by way of DFHEITP, every other value as it is written
unfoldable pub operand_of : ArgumentKind → List ℕ → List ℕ
operand_of Pointer text = codes "DFHEITP"
operand_of Name4 text = name_operand (codes "=CL4") text
operand_of Name8 text = name_operand (codes "=CL8") text
operand_of kind text = text

-- the arguments of the options given, in the order of the command's options
abbrev pub operands_of : List CommandOption → List Word → List (List ℕ)
operands_of options words =
    flat_map (λ o. option_to_list (option_map (operand_of o.kind) (argument_of words (option_name o.name)))) options

-- the labels of the conditions listed, in the order written
abbrev pub labels_of : List Word → List (List ℕ)
labels_of words =
    flat_map (λ word. option_to_list (option_and (condition_called word.name) (text_in word.argument))) words

-- a condition as it is listed: with a label or without
abbrev pub listed_condition : Condition → Argument → ListedCondition
listed_condition condition argument =
    record { number = (entry_of condition).number; label = if is_some (text_in argument) then 0x80 else 0 }

-- the conditions listed, in the order written
abbrev pub listed_of : List Word → List ListedCondition
listed_of words =
    flat_map (λ word. option_to_list (option_map (λ c. listed_condition c word.argument) (condition_called word.name)))
    words

-- the block's bytes: the function value, the option bytes, and two bytes for each condition
unfoldable pub block_bytes : Command → List Word → List ℕ
block_bytes command words =
    (row_of command).function / 256 ∷ (row_of command).function % 256 ∷ first_byte command words ∷ second_byte words
    ∷ flat_map (λ condition. condition.number ∷ condition.label ∷ []) (listed_of words)

-- bytes as hexadecimal digits
abbrev pub hex_pair : ℕ → List ℕ
hex_pair byte = digit_glyph true (byte / 16) ∷ digit_glyph true (byte % 16) ∷ []

abbrev pub block_literal : List ℕ → List ℕ
block_literal bytes = codes "=X'" ++ flat_map hex_pair bytes ++ codes "'"

-- The words of the argument list: the block, the arguments of the options, the labels, and RESP's last.
unfoldable pub list_of : Command → List Word → List (List ℕ)
list_of command words =
    block_literal (block_bytes command words) ∷ (operands_of (row_of command).options words ++ labels_of words
    ++ option_to_list (argument_of words (common_of Resp).name))

abbrev pub pointer_by : ArgumentKind → Option (List ℕ) → List (List ℕ)
pointer_by Pointer (Some register) = register ∷ []
pointer_by kind argument = []

-- the registers that the command's pointers are loaded into
abbrev pub pointers_of : List CommandOption → List Word → List (List ℕ)
pointers_of options words =
    flat_map (λ option. pointer_by option.kind (argument_of words (option_name option.name))) options
