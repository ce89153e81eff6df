-- The table of commands: the argument list that each builds (Application Programmer's Reference Manual, SC33-0077,
-- the syntax of each command; the function values are CICS's customary ones, the bits and the order this product's
-- own).
use Rattle.std.specs.Prelude.{ℕ, true, false, ◌==◌, List, [], ◌∷◌, ◌++◌, Option, codes}
use Rattle.std.specs.List.{find}
use Rattle.std.specs.Option.{option_map, option_or}
use Rattle.std.specs.Str.{bytes_eq}
use Rattle.cx_base.specs.declared.options.CommandOption.{CommandOption}
use Rattle.cx_base.specs.declared.options.OptionName.{OptionName}
use Rattle.cx_base.specs.declared.options.OptionName.TheVariants as option
use Rattle.cx_base.specs.declared.options.ArgumentKind.{ArgumentKind}
use Rattle.cx_base.specs.declared.options.ArgumentKind.TheVariants.{Flag, Address, BytesRead, BytesWritten, BytesOrAddress, Byte, Name4, Name8, Halfword, HalfwordBothWays, HalfwordBothWaysWithoutSet, HalfwordOut, HalfwordOutWithoutRewrite, Pointer}
use Rattle.cx_base.specs.declared.options.Rule.{Rule}
use Rattle.cx_base.specs.declared.options.Rule.TheVariants.{Together, NotBoth, Needs, OneOfTwo, OneOfThree}
use Rattle.cx_base.specs.declared.commands.Command.{Command}
use Rattle.cx_base.specs.declared.commands.Command.TheVariants as command

-- A command's row: its function value, its name, the options that have a bit, in the order of their words in the
-- argument list, and the rules of their legal sets.
pub record Row : Type 0 where
  pub function : ℕ
  pub name : List ℕ
  pub options : List CommandOption
  pub rules : List Rule

abbrev pub row : ℕ → List ℕ → List CommandOption → List Rule → Row
row function name options rules = record { function = function; name = name; options = options; rules = rules }

-- an option that the command can't be without, and one that it can
abbrev pub required_option : ℕ → OptionName → ArgumentKind → CommandOption
required_option bit name kind = record { bit = bit; name = name; kind = kind; required = true }

abbrev pub optional_option : ℕ → OptionName → ArgumentKind → CommandOption
optional_option bit name kind = record { bit = bit; name = name; kind = kind; required = false }

abbrev pub row_of : Command → Row
row_of command.Address = row 0x0202 (codes "ADDRESS") (required_option 0x80 option.Cwa Pointer ∷ []) ([])
row_of command.HandleCondition = row 0x0204 (codes "HANDLE CONDITION") ([]) ([])
row_of command.IgnoreCondition = row 0x020A (codes "IGNORE CONDITION") ([]) ([])
row_of command.PushHandle = row 0x020C (codes "PUSH HANDLE") ([]) ([])
row_of command.PopHandle = row 0x020E (codes "POP HANDLE") ([]) ([])
row_of command.Receive =
    row 0x0402 (codes "RECEIVE")
    (required_option 0x80 option.Into BytesWritten
    ∷ required_option 0x40 option.Length HalfwordBothWays
    ∷ [])
    []
row_of command.WriteqTs =
    row 0x0A02 (codes "WRITEQ TS")
    (required_option 0x80 option.Queue Name8
    ∷ required_option 0x40 option.From BytesRead
    ∷ required_option 0x20 option.Length Halfword
    ∷ optional_option 0x10 option.Main Flag
    ∷ optional_option 0x08 option.Auxiliary Flag
    ∷ optional_option 0x04 option.Nosuspend Flag
    ∷ optional_option 0x02 option.Item HalfwordOutWithoutRewrite
    ∷ optional_option 0x01 option.Rewrite Flag
    ∷ [])
    (NotBoth 0x10 0x08 ∷ Needs 0x01 0x02 ∷ [])
row_of command.ReadqTs =
    row 0x0A04 (codes "READQ TS")
    (required_option 0x80 option.Queue Name8
    ∷ optional_option 0x40 option.Into BytesWritten
    ∷ required_option 0x20 option.Length HalfwordBothWaysWithoutSet
    ∷ optional_option 0x10 option.Item Halfword
    ∷ optional_option 0x08 option.Next Flag
    ∷ optional_option 0x04 option.Set Pointer
    ∷ optional_option 0x02 option.Numitems HalfwordOut
    ∷ [])
    (OneOfTwo 0x40 0x04 ∷ NotBoth 0x10 0x08 ∷ [])
row_of command.DeleteqTs = row 0x0A06 (codes "DELETEQ TS") (required_option 0x80 option.Queue Name8 ∷ []) ([])
row_of command.Getmain =
    row 0x0C02 (codes "GETMAIN")
    (required_option 0x80 option.Set Pointer
    ∷ required_option 0x40 option.Length Halfword
    ∷ optional_option 0x20 option.Initimg Byte
    ∷ optional_option 0x10 option.Nosuspend Flag
    ∷ [])
    []
row_of command.Freemain = row 0x0C04 (codes "FREEMAIN") (required_option 0x80 option.Data Address ∷ []) ([])
row_of command.Link =
    row 0x0E02 (codes "LINK")
    (required_option 0x80 option.Program Name8
    ∷ optional_option 0x40 option.Commarea Address
    ∷ optional_option 0x20 option.Length Halfword
    ∷ [])
    (Together 0x40 0x20 ∷ [])
row_of command.Xctl =
    row 0x0E04 (codes "XCTL")
    (required_option 0x80 option.Program Name8
    ∷ optional_option 0x40 option.Commarea BytesRead
    ∷ optional_option 0x20 option.Length Halfword
    ∷ [])
    (Together 0x40 0x20 ∷ [])
row_of command.Return =
    row 0x0E08 (codes "RETURN")
    (optional_option 0x80 option.Transid Name4
    ∷ optional_option 0x40 option.Commarea BytesRead
    ∷ optional_option 0x20 option.Length Halfword
    ∷ [])
    (Together 0x40 0x20 ∷ [])
row_of command.Abend =
    row 0x0E0C (codes "ABEND")
    (optional_option 0x80 option.Abcode Name4
    ∷ optional_option 0x40 option.Cancel Flag
    ∷ optional_option 0x20 option.Nodump Flag
    ∷ [])
    []
row_of command.HandleAbend =
    row 0x0E0E (codes "HANDLE ABEND")
    (optional_option 0x80 option.Label Address
    ∷ optional_option 0x40 option.Cancel Flag
    ∷ optional_option 0x20 option.Reset Flag
    ∷ [])
    (OneOfThree 0x80 0x40 0x20 ∷ [])
row_of command.Enq =
    row 0x1204 (codes "ENQ")
    (required_option 0x80 option.Resource BytesOrAddress
    ∷ optional_option 0x40 option.Length Halfword
    ∷ optional_option 0x20 option.Nosuspend Flag
    ∷ [])
    []
row_of command.Deq =
    row 0x1206 (codes "DEQ")
    (required_option 0x80 option.Resource BytesOrAddress
    ∷ optional_option 0x40 option.Length Halfword
    ∷ [])
    []
row_of command.Suspend = row 0x1208 (codes "SUSPEND") ([]) ([])
row_of command.SendText =
    row 0x1806 (codes "SEND TEXT")
    (required_option 0x80 option.From BytesRead
    ∷ required_option 0x40 option.Length Halfword
    ∷ optional_option 0x20 option.Erase Flag
    ∷ optional_option 0x10 option.Freekb Flag
    ∷ [])
    []

-- all commands
abbrev pub all_commands : List Command
all_commands =
    command.Address ∷ command.HandleCondition ∷ command.IgnoreCondition ∷ command.PushHandle ∷ command.PopHandle
    ∷ command.Receive ∷ command.WriteqTs ∷ command.ReadqTs ∷ command.DeleteqTs ∷ command.Getmain ∷ command.Freemain
    ∷ command.Link ∷ command.Xctl ∷ command.Return ∷ command.Abend ∷ command.HandleAbend ∷ command.Enq ∷ command.Deq
    ∷ command.Suspend ∷ command.SendText ∷ []

-- the command of a function value, where one has it
unfoldable pub command_with : ℕ → Option Command
command_with function = find (λ command. (row_of command).function == function) all_commands

-- the command of a name, where one has it
unfoldable pub command_called : List ℕ → Option Command
command_called name = find (λ command. bytes_eq (row_of command).name name) all_commands

-- two words with a blank between
abbrev pub with_blank_between : List ℕ → List ℕ → List ℕ
with_blank_between first second = first ++ 0x20 ∷ second

-- a command with the number of words that name it
abbrev pub command_with_words : ℕ → Command → Command × ℕ
command_with_words words command = (command, words)

-- The command that words begin with, and how many of them are its name: both, or else the first alone, or else the
-- first with TS left out.
unfoldable pub command_named : List ℕ → List ℕ → Option (Command × ℕ)
command_named first second =
    option_or (option_map (command_with_words 2) (command_called (with_blank_between first second)))
    (option_or (option_map (command_with_words 1) (command_called first))
    (option_map (command_with_words 1) (command_called (with_blank_between first (codes "TS")))))
