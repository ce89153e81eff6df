-- Digits of a base are below it, so that their number fits.
use Rattle.std.proofs.Common.{◌≡◌, ◌<◌, ◌^◌, ℕ, Bool, true, false, not, Option, Some, None, List, [], ◌∷◌, length, map, refl, unwrap_or, subst, arith}
use Rattle.std.specs.Prelude.{nat_lt, ◌==◌, option_map}
use Rattle.std.specs.List.{list_all, find}
use Rattle.std.specs.Option.{option_map_or}
use Rattle.std.specs.Int.Digits.{AllBelowBase, number_from_digits}
use Rattle.std.proofs.lemmas.Int.Digits.{number_lt}
use Rattle.std.proofs.lemmas.List.{length-map}
use Rattle.std.proofs.lemmas.Bool.{ltb-true, and_parts}
use Rattle.std.proofs.lemmas.Bool.Decides.{nat_tests}
use Rattle.cx_ebcdic.specs.Characters.{code_of, table}
use Rattle.cx_ebcdic.specs.Facts.Lookup.{find_meets}
use Rattle.cx_asm_expressions.specs.Texts.{code, character_number, characters}
use Rattle.cx_asm_expressions.specs.Digits.{digit, is_digit, digit_value, is_number, number_in}

below : (base : ℕ) (found : Option ℕ) → option_map_or (λ value. nat_lt value base) found false ≡ true → unwrap_or found 0 < base
below base None e = cc
below base (Some value) e = grind (arith, nat_tests)

all_below : (base : ℕ) (text : List ℕ) → list_all (is_digit base) text ≡ true → AllBelowBase base (map digit_value text)
all_below base [] e = tt
all_below base (c ∷ text) e =
    let parts = and_parts (is_digit base c) (list_all (is_digit base) text) e in
    (below base (digit c) parts.0, all_below base text parts.1)

pub digits_fit : (base : ℕ) (text : List ℕ) → is_number base text ≡ true → number_in base text < base ^ length text
digits_fit base text e =
    let parts = and_parts (not (length text == 0)) (list_all (is_digit base) text) e in
    let fits : number_from_digits base (map digit_value text) < base ^ length (map digit_value text) = number_lt base (map digit_value text) (all_below base text parts.1) in
    let same : length (map digit_value text) ≡ length text = simp length-map in
    subst (λ n. number_in base text < base ^ n) same fits

-- a code is a byte, and so is what stands for a character without one
row_is_byte : ℕ × ℕ → Bool
row_is_byte row = nat_lt row.1 256

all_rows : list_all row_is_byte table ≡ true
unfolding table row_is_byte
all_rows = refl

row_below : (row : ℕ × ℕ) → row_is_byte row ≡ true → row.1 < 256
unfolding row_is_byte
row_below row e = ltb-true _ _ e

code_below : (c : ℕ) → code c < 256
unfolding code_of
code_below c = go (find (λ row. row.0 == c) table) (λ row e. row_below row (find_meets (λ row. row.0 == c) row_is_byte table row all_rows e).1)
  where
    go : (o : Option (ℕ × ℕ)) → ((row : ℕ × ℕ) → o ≡ Some row → row.1 < 256) → unwrap_or (option_map (λ row. row.1) o) 0 < 256
    go None each = omega arith
    go (Some row) each = each row refl

codes_below : (text : List ℕ) → AllBelowBase 256 (map code text)
codes_below [] = tt
codes_below (c ∷ text) = (code_below c, codes_below text)

pub characters_fit : (body : List ℕ) → character_number body < 256 ^ length (characters body)
characters_fit body =
    let fits : character_number body < 256 ^ length (map code (characters body)) = number_lt 256 (map code (characters body)) (codes_below (characters body)) in
    let same : length (map code (characters body)) ≡ length (characters body) = simp length-map in
    subst (λ n. character_number body < 256 ^ n) same fits
