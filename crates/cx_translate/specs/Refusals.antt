-- Which EXEC statements are refused, and as what (Application Programmer's Reference Manual, SC33-0077, "EXEC CICS"
-- command format and the syntax of each command; the faults and their order are this product's own).
use Rattle.std.specs.Prelude.{ℕ, Bool, false, ◌&&◌, ◌||◌, not, nat_lt, if◌then◌else◌, List, [], ◌∷◌, Option, Some, None, option_map, is_none, is_some, unwrap_or, slice_get, take, drop, count_by, fold, codes, bit_or}
use Rattle.std.specs.Option.{option_map_or}
use Rattle.std.specs.List.{list_any}
use Rattle.std.specs.Str.{bytes_eq}
use Rattle.cx_base.specs.declared.commands.Command.{Command}
use Rattle.cx_base.specs.declared.options.CommonOption.TheVariants.{Nohandle, Resp}
use Rattle.cx_base.specs.declared.options.Rule.{Rule}
use Rattle.cx_base.specs.declared.options.Rule.TheVariants.{NotBoth, OneOfTwo, OneOfThree}
use Rattle.cx_base.specs.Options.{common_of, option_name}
use Rattle.cx_base.specs.Commands.{row_of, command_named}
use Rattle.cx_base.specs.Legal.{has_bit, is_legal, lists_conditions}
use Rattle.cx_translate.specs.declared.words.Word.{Word}
use Rattle.cx_translate.specs.declared.due_arguments.DueArgument.TheVariants.{Nothing}
use Rattle.cx_translate.specs.declared.faults.TransFault.{TransFault}
use Rattle.cx_translate.specs.declared.faults.TransFault.TheVariants.{UnknownCommand, UnknownOption, MissingOption, Conflict, TooManyConditions, BadArgument, Memory}
use Rattle.cx_translate.specs.DueArguments.{condition_called, due_of, suits}

-- a fault's name
abbrev pub refusal_name : TransFault → List ℕ
refusal_name (UnknownCommand line) = codes "UnknownCommand"
refusal_name (UnknownOption line) = codes "UnknownOption"
refusal_name (MissingOption line) = codes "MissingOption"
refusal_name (Conflict line) = codes "Conflict"
refusal_name (TooManyConditions line) = codes "TooManyConditions"
refusal_name (BadArgument line) = codes "BadArgument"
refusal_name Memory = codes "Memory"

-- the word at a place, empty past the end
abbrev pub word_at : List Word → ℕ → List ℕ
word_at words k = unwrap_or (option_map (λ word. word.name) (slice_get words k)) []

-- The command that the words give after CICS, and how many words its name takes. TS may be left out.
unfoldable pub command_in : List Word → Option (Command × ℕ)
command_in words =
    if bytes_eq (word_at words 0) (codes "CICS") then command_named (word_at words 1) (word_at words 2) else None

-- anything follows some word
unfoldable pub has_argument : List Word → Bool
has_argument words = list_any (λ word. not (suits Nothing word.argument)) words

-- some word is of this name
unfoldable pub is_given : List Word → List ℕ → Bool
is_given words name = list_any (λ word. bytes_eq word.name name) words

-- some word is no option of the command, and no condition that it lists
unfoldable pub has_unknown : Command → List Word → Bool
has_unknown command words = list_any (λ word. is_none (due_of command word.name)) words

-- an argument other than is due follows some word
unfoldable pub has_wrong : Command → List Word → Bool
has_wrong command words =
    list_any (λ word. option_map_or (λ due. not (suits due word.argument)) (due_of command word.name) false) words

-- how many conditions are listed
unfoldable pub conditions_in : List Word → ℕ
conditions_in words = count_by (λ word. is_some (condition_called word.name)) words

unfoldable pub has_too_many : Command → List Word → Bool
has_too_many command words = lists_conditions command && nat_lt 16 (conditions_in words)

-- a word that occurs twice
abbrev pub has_twice : List Word → Bool
has_twice [] = false
has_twice (word ∷ rest) = is_given rest word.name || has_twice rest

-- option byte 1: the bits of the options given, or the number of conditions listed
unfoldable pub first_byte : Command → List Word → ℕ
first_byte command words =
    if lists_conditions command then conditions_in words else
    fold (λ byte o. if is_given words (option_name o.name) then bit_or byte o.bit else byte) 0 (row_of command).options

-- option byte 2: NOHANDLE and RESP
unfoldable pub second_byte : List Word → ℕ
second_byte words =
    bit_or (if is_given words (common_of Nohandle).name then (common_of Nohandle).bit else 0)
    (if is_given words (common_of Resp).name then (common_of Resp).bit else 0)

-- more options are given together than a rule allows
abbrev pub exceeds : (ℕ → Bool) → Rule → Bool
exceeds present (NotBoth a b) = present a && present b
exceeds present (OneOfTwo a b) = present a && present b
exceeds present (OneOfThree a b c) = (present a && present b) || (present a && present c) || (present b && present c)
exceeds present rule = false

unfoldable pub has_excluded : List Rule → ℕ → Bool
has_excluded rules byte = list_any (exceeds (has_bit byte)) rules

-- The fault of a statement, the first of these that applies. `cics` and `named` are the words of CICS and of the
-- command's name, `words` the rest. An option is missing where the options given are no legal set, though none excludes
-- another.
unfoldable pub fault_in : ℕ → Command → List Word → List Word → List Word → Option TransFault
fault_in line command cics named words =
    if has_unknown command words then Some (UnknownOption line)
    else (if has_argument cics || has_argument named || has_wrong command words then Some (BadArgument line)
    else (if has_too_many command words then Some (TooManyConditions line)
    else (if has_twice words || has_excluded (row_of command).rules (first_byte command words) then Some (Conflict line)
    else (if is_legal command (first_byte command words) (second_byte words) then None
    else Some (MissingOption line)))))

-- the fault of the EXEC statement on this line, of which these are the words
unfoldable pub refusal_of : ℕ → List Word → Option TransFault
refusal_of line words = option_map_or
    (λ found. fault_in line found.0 (take 1 words) (take found.1 (drop 1 words)) (drop found.1 (drop 1 words)))
    (command_in words) (Some (UnknownCommand line))
