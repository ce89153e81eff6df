-- The arguments of an argument list, and how many bytes a command reads at each (this product's own layout).
use Rattle.std.specs.Prelude.{ℕ, ◌^◌, Bool, true, false, ◌&&◌, nat_lt, nat_le, List, Option, Some, None, if◌then◌else◌}
use Rattle.std.specs.List.{filter, find, list_any, position}
use Rattle.cx_base.specs.declared.commands.Command.{Command}
use Rattle.cx_base.specs.declared.options.CommandOption.{CommandOption}
use Rattle.cx_base.specs.declared.options.ArgumentKind.{ArgumentKind}
use Rattle.cx_base.specs.declared.options.ArgumentKind.TheVariants.{Flag, Address, BytesRead, BytesWritten, BytesOrAddress, Byte, Name4, Name8, Halfword, HalfwordBothWays, HalfwordBothWaysWithoutSet, HalfwordOut, HalfwordOutWithoutRewrite, Pointer}
use Rattle.cx_base.specs.declared.options.OptionName.{OptionName}
use Rattle.cx_base.specs.declared.options.OptionName.TheVariants.{Rewrite, Set}
use Rattle.cx_base.specs.Options.{is_option}
use Rattle.cx_base.specs.Commands.{row_of}
use Rattle.cx_base.specs.Legal.{has_bit}

-- the option has an argument, and so a word in the list
abbrev pub takes_argument : ArgumentKind → Bool
takes_argument Flag = false
takes_argument _ = true

-- an option that option byte 1 has, and that has an argument
abbrev pub is_argument : ℕ → CommandOption → Bool
is_argument first option = has_bit first option.bit && takes_argument option.kind

-- the options with an argument that option byte 1 has, in the order of their words
unfoldable pub arguments_in : List CommandOption → ℕ → List CommandOption
arguments_in options first = filter (is_argument first) options

-- the place of an option's argument among those that option byte 1 has, where it has the option and that an argument
unfoldable pub argument_index : Command → ℕ → OptionName → Option ℕ
argument_index command first name =
    position (λ option. is_option option.name name) (arguments_in (row_of command).options first)

-- a command's option of this name, where it has one
unfoldable pub option_of : Command → OptionName → Option CommandOption
option_of command name = find (λ option. is_option option.name name) (row_of command).options

-- an option of the command is there
unfoldable pub has_option : Command → ℕ → OptionName → Bool
has_option command first name =
    list_any (λ option. is_option option.name name && has_bit first option.bit) (row_of command).options

-- the number of bytes that LENGTH gives: its signed value, or none where that is negative
abbrev pub bytes_of_length : Option ℕ → ℕ
bytes_of_length None = 0
bytes_of_length (Some halfword) = if nat_lt halfword (2 ^ 15) then halfword else 0

-- and where it measures the name of a resource: none either where it is above 255
abbrev pub bytes_of_name : Option ℕ → ℕ
bytes_of_name None = 0
bytes_of_name (Some halfword) = if nat_le halfword 255 then halfword else 0

-- How many bytes a command reads at an argument: by the option's kind, by the options that are given with it, and by
-- the halfword in LENGTH's argument, where it has LENGTH.
unfoldable pub input_len : ArgumentKind → (OptionName → Bool) → Option ℕ → ℕ
input_len Flag has length = 0
input_len Address has length = 0
input_len BytesRead has length = bytes_of_length length
input_len BytesWritten has length = 0
input_len BytesOrAddress has length = bytes_of_name length
input_len Byte has length = 1
input_len Name4 has length = 4
input_len Name8 has length = 8
input_len Halfword has length = 2
input_len HalfwordBothWays has length = 2
input_len HalfwordBothWaysWithoutSet has length = if has Set then 0 else 2
input_len HalfwordOut has length = 0
input_len HalfwordOutWithoutRewrite has length = if has Rewrite then 2 else 0
input_len Pointer has length = 0
