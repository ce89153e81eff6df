-- Room for outputs, by the number of bytes of the text that a command hands over.
use Rattle.std.specs.Prelude.{ℕ, Bool, true, List, Option, Some, None, is_some, min}
use Rattle.std.specs.List.{list_all}
use Rattle.cx_storage.specs.Storage.{Storage, span}
use Rattle.cx_region_state.specs.Call.{Call, place_of}
use Rattle.cx_region_state.specs.declared.outputs.Output.{Output}
use Rattle.cx_region_state.specs.declared.outputs.OutputValue.{OutputValue}
use Rattle.cx_region_state.specs.declared.outputs.OutputValue.TheVariants.{Text, Half, Word}

-- how many bytes an output has, of a text of `len` bytes
abbrev pub output_length : ℕ → OutputValue → ℕ
output_length len (Text n) = min n len
output_length len (Half n) = 2
output_length len (Word n) = 4

-- the place of an output, where its option is there, has so many bytes
abbrev pub is_room_for : Storage → Option ℕ → ℕ → Bool
is_room_for s None n = true
is_room_for s (Some place) n = is_some (span s place n)

-- each byte of the outputs is in storage
unfoldable pub have_room : Storage → Call → ℕ → List Output → Bool
have_room s call len outputs =
    list_all (λ output. is_room_for s (place_of call output.option) (output_length len output.source)) outputs
