-- A name's characters are ASCII, so that a name is a text.
use Rattle.std.proofs.Common.{◌≡◌, ℕ, ◌<◌, zero, suc, true, ◌&&◌, List, [], ◌∷◌, arith}
use Rattle.std.proofs.lemmas.Bool.{and_parts}
use Rattle.std.specs.Prelude.{slice_index}
use Rattle.std.specs.List.{list_all}
use Rattle.std.specs.Str.{IsAscii, IsUtf8}
use Rattle.std.proofs.lemmas.Str.{IsUtf8-from_ascii}
use Rattle.std.proofs.lemmas.Bool.Decides.{nat_tests}
use Rattle.cx_source.specs.Lines.{is_letter, is_symbol_name_character, is_symbol_name}

small : (c : ℕ) → is_symbol_name_character c ≡ true → c < 128
unfolding is_symbol_name_character is_letter
small c e = grind (arith, nat_tests)

all_small : (text : List ℕ) → list_all is_symbol_name_character text ≡ true → IsAscii text
all_small [] e i = omega arith
all_small (c ∷ cs) e zero = small c (and_parts (is_symbol_name_character c) (list_all is_symbol_name_character cs) e).0
all_small (c ∷ cs) e (suc i) = all_small cs (and_parts (is_symbol_name_character c) (list_all is_symbol_name_character cs) e).1 i

pub names_are_text : (text : List ℕ) → is_symbol_name text ≡ true → IsUtf8 text
unfolding is_symbol_name
names_are_text text e =
    let first : (is_letter (slice_index text 0) && list_all is_symbol_name_character text) ≡ true = (and_parts _ _ e).0 in
    IsUtf8-from_ascii text (all_small text (and_parts _ _ first).1)
