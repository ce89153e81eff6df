-- The command that is due as a source writes it, and what it reads (own).
use Rattle.std.specs.Prelude.{ℕ, Bool, true, false, ◌&&◌, not, min, nat_lt, List, [], ◌∷◌, ◌++◌, map, codes, if◌then◌else◌}
use Rattle.std.specs.List.{filter, flat_map}
use Rattle.std.specs.Option.{option_map_or}
use Rattle.cx_storage.specs.Storage.{Storage}
use Rattle.cx_base.specs.Arguments.{arguments_in, has_option, input_len, takes_argument}
use Rattle.cx_base.specs.Commands.{row_of}
use Rattle.cx_base.specs.Conditions.{entry_of}
use Rattle.cx_base.specs.Legal.{has_bit}
use Rattle.cx_base.specs.Options.{option_name}
use Rattle.cx_base.specs.declared.options.CommandOption.{CommandOption}
use Rattle.cx_base.specs.declared.options.ArgumentKind.{ArgumentKind}
use Rattle.cx_base.specs.declared.options.ArgumentKind.TheVariants as kind
use Rattle.cx_base.specs.declared.options.OptionName.{OptionName}
use Rattle.cx_base.specs.declared.options.OptionName.TheVariants.{Commarea, Length, Rewrite, Set}
use Rattle.cx_region_state.specs.Call.{Call, has_nohandle, place_of, resp_place}
use Rattle.cx_region_state.specs.Inputs.{bytes_of, halfword_of}
use Rattle.cx_region_state.specs.Listed.{listed_of}
use Rattle.cx_region_state.specs.declared.listed.Listed.{Listed}
use Rattle.cx_base.specs.Digits.{digits}
use Rattle.cx_look_lines.specs.Words.{look_line, written_bytes, written_name, Lines}

-- ---- the options
-- how a value is written in the command: a name and a halfword that the command reads as they are, all else by its
-- address; hyphens where the bytes aren't in storage
abbrev pub reads_halfword : ArgumentKind → (OptionName → Bool) → Bool
reads_halfword kind.Halfword has = true
reads_halfword kind.HalfwordBothWays has = true
reads_halfword kind.HalfwordBothWaysWithoutSet has = not (has Set)
reads_halfword kind.HalfwordOutWithoutRewrite has = has Rewrite
reads_halfword _ has = false

abbrev pub value_by : ArgumentKind → Bool → Storage → Call → OptionName → List ℕ
value_by kind.Name4 is_read s call name = option_map_or written_name (bytes_of s call name 4) (codes "--")
value_by kind.Name8 is_read s call name = option_map_or written_name (bytes_of s call name 8) (codes "--")
value_by _ is_read s call name =
    if is_read then option_map_or (digits 16 4) (halfword_of s call name) (codes "--")
    else option_map_or (digits 16 6) (place_of call name) (codes "--")

unfoldable pub option_value : Storage → Call → CommandOption → List ℕ
option_value s call option =
    value_by option.kind (reads_halfword option.kind (has_option call.command call.first)) s call option.name

-- NAME(value)
abbrev pub with_value : List ℕ → List ℕ → List ℕ
with_value name value = name ++ codes "(" ++ value ++ codes ")"

unfoldable pub option_word : Storage → Call → CommandOption → List ℕ
option_word s call option =
    if takes_argument option.kind then with_value (option_name option.name) (option_value s call option)
    else option_name option.name

-- the command's options that are there, in the order of its row
unfoldable pub option_words : Storage → Call → List CommandOption → List (List ℕ)
option_words s call options = map (option_word s call) (filter (λ option. has_bit call.first option.bit) options)

-- a condition that is listed, with its label where it has one
abbrev pub condition_word : Listed → List ℕ
condition_word listed =
    let name = (entry_of listed.condition).name in
    option_map_or (λ label. with_value name (digits 16 6 label)) listed.label name

-- the command's line, with NOHANDLE, and RESP with the address of its word, where they are there
unfoldable pub command_line : Storage → Call → Lines
command_line s call =
    look_line
    ((row_of call.command).name
    ∷ option_words s call (row_of call.command).options ++ map condition_word (listed_of call)
    ++ (if has_nohandle call.second then codes "NOHANDLE" ∷ [] else [])
    ++ option_map_or (λ place. with_value (codes "RESP") (digits 16 6 place) ∷ []) (resp_place call) [])

-- ---- what it reads beside names and halfwords: its first 64 bytes
abbrev pub is_data : ArgumentKind → Bool
is_data kind.BytesRead = true
is_data kind.BytesOrAddress = true
is_data kind.Byte = true
is_data _ = false

-- a COMMAREA is what the program finds there, also that of LINK, which passes its address
abbrev pub kind_read : OptionName → ArgumentKind → ArgumentKind
kind_read Commarea own = kind.BytesRead
kind_read _ own = own

-- how many bytes are read at an option's argument
abbrev pub count_read : Storage → Call → CommandOption → ℕ
count_read s call option =
    input_len (kind_read option.name option.kind) (has_option call.command call.first) (halfword_of s call Length)

unfoldable pub input_line : Storage → Call → CommandOption → Lines
input_line s call option =
    let bytes = bytes_of s call option.name (min 64 (count_read s call option)) in
    look_line (option_name option.name ∷ option_map_or written_bytes bytes (codes "--") ∷ [])

-- the data options that are there, of which some byte is read
unfoldable pub is_input : Storage → Call → CommandOption → Bool
is_input s call option = is_data (kind_read option.name option.kind) && nat_lt 0 (count_read s call option)

unfoldable pub input_lines : Storage → Call → List CommandOption → Lines
input_lines s call options = flat_map (input_line s call) (filter (is_input s call) (arguments_in options call.first))

-- the command, and a line for each of its inputs
unfoldable pub call_text : Storage → Call → Lines
call_text s call = command_line s call ++ input_lines s call (row_of call.command).options
