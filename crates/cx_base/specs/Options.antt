-- The options' names (Application Programmer's Reference Manual, SC33-0077, the syntax of each command).
use Rattle.std.specs.Prelude.{ℕ, Bool, true, false, List, codes}
use Rattle.cx_base.specs.contracts.options.OptionNamePartialEq.TheImpl as option_impl
use Rattle.cx_base.specs.declared.options.CommonOption.{CommonOption}
use Rattle.cx_base.specs.declared.options.CommonOption.TheVariants.{Nohandle, Resp}
use Rattle.cx_base.specs.declared.options.OptionName.{OptionName}
use Rattle.cx_base.specs.declared.options.OptionName.TheVariants as option

abbrev pub option_name : OptionName → List ℕ
option_name option.Abcode = codes "ABCODE"
option_name option.Auxiliary = codes "AUXILIARY"
option_name option.Cancel = codes "CANCEL"
option_name option.Commarea = codes "COMMAREA"
option_name option.Cwa = codes "CWA"
option_name option.Data = codes "DATA"
option_name option.Erase = codes "ERASE"
option_name option.Freekb = codes "FREEKB"
option_name option.From = codes "FROM"
option_name option.Initimg = codes "INITIMG"
option_name option.Into = codes "INTO"
option_name option.Item = codes "ITEM"
option_name option.Label = codes "LABEL"
option_name option.Length = codes "LENGTH"
option_name option.Main = codes "MAIN"
option_name option.Next = codes "NEXT"
option_name option.Nodump = codes "NODUMP"
option_name option.Nosuspend = codes "NOSUSPEND"
option_name option.Numitems = codes "NUMITEMS"
option_name option.Program = codes "PROGRAM"
option_name option.Queue = codes "QUEUE"
option_name option.Reset = codes "RESET"
option_name option.Resource = codes "RESOURCE"
option_name option.Rewrite = codes "REWRITE"
option_name option.Set = codes "SET"
option_name option.Transid = codes "TRANSID"

-- whether two options are the same
abbrev pub is_option : OptionName → OptionName → Bool
is_option = (option_impl.ghosts).eq

-- An option that every command may have: its name, its bit in option byte 2, and whether it has an argument.
pub record Common : Type 0 where
  pub name : List ℕ
  pub bit : ℕ
  pub has_argument : Bool

abbrev pub common : List ℕ → ℕ → Bool → Common
common name bit has_argument = record { name = name; bit = bit; has_argument = has_argument }

abbrev pub common_of : CommonOption → Common
common_of Nohandle = common (codes "NOHANDLE") 0x80 false
common_of Resp = common (codes "RESP") 0x40 true
