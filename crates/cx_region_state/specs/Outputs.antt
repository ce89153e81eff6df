-- What a command writes into its program's storage (Application Programmer's Reference Manual, SC33-0077, "Argument
-- Values" and the syntax of each command).
use Rattle.std.specs.Prelude.{ℕ, Bool, true, List, [], ◌∷◌, Option, Some, None, is_some, length, take}
use Rattle.std.specs.List.{list_all}
use Rattle.std.specs.Int.{w16, w32, to_be_bytes}
use Rattle.cx_storage.specs.Storage.{Storage, span, after_write}
use Rattle.cx_region_state.specs.Call.{Call, place_of}
use Rattle.cx_region_state.specs.declared.outputs.Output.{Output}
use Rattle.cx_region_state.specs.declared.outputs.OutputValue.{OutputValue}
use Rattle.cx_region_state.specs.declared.outputs.OutputValue.TheVariants.{Text, Half, Word}

-- the bytes of an output; the text is the one that the command hands over, as the input of RECEIVE
abbrev pub bytes_from : List ℕ → OutputValue → List ℕ
bytes_from text (Text n) = take n text
bytes_from text (Half n) = to_be_bytes w16 n
bytes_from text (Word n) = to_be_bytes w32 n

-- the place of an output, where its option is there, has all the bytes
abbrev pub is_room : Storage → Option ℕ → List ℕ → Bool
is_room s None bytes = true
is_room s (Some place) bytes = is_some (span s place (length bytes))

-- storage with the bytes at the place of an output, where its option is there
abbrev pub with_output : Storage → Option ℕ → List ℕ → Storage
with_output s None bytes = s
with_output s (Some place) bytes = after_write s place bytes

-- each byte of the outputs is in storage; an output whose option isn't there has none
unfoldable pub can_put : Storage → Call → List ℕ → List Output → Bool
can_put s call text outputs =
    list_all (λ output. is_room s (place_of call output.option) (bytes_from text output.source)) outputs

-- storage after the outputs are written in turn
unfoldable pub put_out : Storage → Call → List ℕ → List Output → Storage
put_out s call text [] = s
put_out s call text (output ∷ rest) =
    put_out (with_output s (place_of call output.option) (bytes_from text output.source)) call text rest
