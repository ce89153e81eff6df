-- Room for outputs is known from the number of bytes of the text.
use Rattle.std.proofs.Common.{◌≡◌, ℕ, List, [], ◌∷◌, Option, Some, None, length, is_some, refl, ap, sym}
use Rattle.std.proofs.lemmas.List.{length-take}
use Rattle.cx_storage.specs.Storage.{Storage, span}
use Rattle.cx_region_state.specs.Call.{Call, place_of}
use Rattle.cx_region_state.specs.Outputs.{bytes_from, can_put, is_room}
use Rattle.cx_region_state.specs.Parts.Room.{have_room, is_room_for, output_length}
use Rattle.cx_region_state.specs.declared.outputs.Output.{Output}
use Rattle.cx_region_state.specs.declared.outputs.OutputValue.{OutputValue}
use Rattle.cx_region_state.specs.declared.outputs.OutputValue.TheVariants.{Text, Half, Word}

length_is : (text : List ℕ) (source : OutputValue) → output_length (length text) source ≡ length (bytes_from text source)
length_is text (Text n) = sym (length-take n text)
length_is text (Half n) = refl
length_is text (Word n) = refl

room_is : (s : Storage) (place : Option ℕ) (text : List ℕ) (source : OutputValue)
    → is_room_for s place (output_length (length text) source) ≡ is_room s place (bytes_from text source)
room_is s None text source = refl
room_is s (Some place) text source = ap (λ n. is_some (span s place n)) (length_is text source)

pub have_room_is : (s : Storage) (call : Call) (text : List ℕ) (outputs : List Output) → have_room s call (length text) outputs ≡ can_put s call text outputs
unfolding have_room can_put
have_room_is s call text [] = refl
have_room_is s call text (output ∷ rest) =
    rw (room_is s (place_of call output.option) text output.source, have_room_is s call text rest) refl
