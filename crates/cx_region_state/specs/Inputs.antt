-- What a command reads of its program's storage (Application Programmer's Reference Manual, SC33-0077, "Argument
-- Values" and the syntax of each command). All of it is read as the command finds storage.
use Rattle.std.specs.Prelude.{ℕ, ◌^◌, Bool, true, false, ◌&&◌, nat_le, List, Option, is_some}
use Rattle.std.specs.Option.{option_map, option_map_or, option_and_then}
use Rattle.std.specs.List.{list_all}
use Rattle.cx_base.specs.declared.options.CommandOption.{CommandOption}
use Rattle.cx_base.specs.declared.options.OptionName.{OptionName}
use Rattle.cx_base.specs.declared.options.OptionName.TheVariants.{Length}
use Rattle.cx_base.specs.Arguments.{arguments_in, bytes_of_length, has_option, input_len}
use Rattle.cx_base.specs.Commands.{row_of}
use Rattle.cx_storage.specs.Storage.{Storage, span}
use Rattle.cx_storage.specs.Word.{halfword_at}
use Rattle.cx_region_state.specs.Call.{Call, place_of, resp_place}
use Rattle.cx_region_state.specs.declared.inputs.StorageSpan.{StorageSpan}

-- a call, and storage as it finds it
pub record CallInputs : Type 0 where
  pub storage : Storage
  pub call : Call

-- the n bytes at an option's argument, where the option is there and they are in storage
unfoldable pub bytes_of : Storage → Call → OptionName → ℕ → Option (List ℕ)
bytes_of s call name n = option_and_then (λ place. span s place n) (place_of call name)

-- the halfword there
unfoldable pub halfword_of : Storage → Call → OptionName → Option ℕ
halfword_of s call name = option_and_then (λ place. halfword_at s place) (place_of call name)

-- LENGTH is there, and its sign bit is set
unfoldable pub is_length_negative : Storage → Call → Bool
is_length_negative s call = option_map_or (nat_le (2 ^ 15)) (halfword_of s call Length) false

-- how many bytes LENGTH says: none where it is negative or isn't there
unfoldable pub length_option : Storage → Call → ℕ
length_option s call = bytes_of_length (halfword_of s call Length)

-- the bytes that LENGTH measures at an option's argument
unfoldable pub piece_of : Storage → Call → OptionName → Option StorageSpan
piece_of s call name = option_map (λ place. record { place = place; len = length_option s call }) (place_of call name)

-- a piece's bytes
abbrev pub piece_bytes : Storage → StorageSpan → Option (List ℕ)
piece_bytes s piece = span s piece.place piece.len

-- what the command reads at an option's argument, by the option's kind
unfoldable pub input_of : Storage → Call → CommandOption → Option (List ℕ)
input_of s call option =
    bytes_of s call option.name (input_len option.kind (has_option call.command call.first) (halfword_of s call Length))

-- each byte that the command reads is in storage, and so is RESP's word
unfoldable pub are_inputs_there : Storage → Call → Bool
are_inputs_there s call =
    list_all (λ option. is_some (input_of s call option)) (arguments_in (row_of call.command).options call.first)
    && option_map_or (λ place. is_some (span s place 4)) (resp_place call) true
