-- Bytes as hexadecimal digits, and as the constant that these write.
use Rattle.std.specs.Prelude.{flat_map, nat_lt, slice_index}
use Rattle.std.proofs.Common.{◌≡◌, ◌<◌, ℕ, suc, ◌+◌, ◌-◌, ◌*◌, ◌/◌, ◌%◌, true, false, ◌==◌, Option, Some, None, Ok, List, [], ◌∷◌, ◌++◌, length, refl, sym, ◌∙◌, ap, arith}
use Rattle.std.specs.Fmt.{digit_glyph}
use Rattle.std.specs.List.{AllByRecursion, list_all}
use Rattle.std.proofs.Math.Seq.{get_or-append_seam, take-append_seam}
use Rattle.std.proofs.lemmas.Bool.Decides.{nat_tests}
use Rattle.std.proofs.lemmas.List.{append_assoc, append-nil, length-append}
use Rattle.cx_asm_expressions.specs.Bytes.{copy_of_constant, constant_copy}
use Rattle.cx_asm_expressions.specs.Digits.{digit, is_digit, digit_value}
use Rattle.cx_asm_expressions.specs.Items.{constant, constant_in, value_in}
use Rattle.cx_asm_expressions.specs.Kinds.{digit_from_right, half_bytes, kind_of}
use Rattle.cx_asm_expressions.specs.Texts.{before_apostrophe, is_doubled}
use Rattle.cx_asm_expressions.specs.declared.kinds.ConstantKind.TheVariants.{Hexadecimal}
use Rattle.cx_asm_expressions.specs.declared.values.Value.{Value}
use Rattle.cx_code.specs.Text.{hex_pair}
use Rattle.cx_asm_pass2.specs.Whole.{Whole, item_made}
use Rattle.cx_asm_laws.specs.Facts.Plain.{ArePlain, glyph_plain, other}

abbrev pub EachIsByte : List ℕ → Type 0
EachIsByte bytes = AllByRecursion (λ byte. byte < 256) bytes

-- ---- digits
glyph_digit : (d : ℕ) → d < 16 → digit (digit_glyph true d) ≡ Some d
unfolding digit
glyph_digit d h = grind (arith, nat_tests)

pub hex_plain : (bytes : List ℕ) → EachIsByte bytes → ArePlain (flat_map hex_pair bytes)
hex_plain [] h = tt
hex_plain (b ∷ bytes) h =
    let small = h.0 in
    (glyph_plain true (b / 16) (omega (arith, small)), (glyph_plain true (b % 16) (omega arith), hex_plain bytes h.1))

hex_digits : (bytes : List ℕ) → EachIsByte bytes → list_all (is_digit 16) (flat_map hex_pair bytes) ≡ true
hex_digits [] h = refl
hex_digits (b ∷ bytes) h =
    let small = h.0 in
    let high : b / 16 < 16 = omega (arith, small) in
    let low : b % 16 < 16 = omega arith in
    let one : nat_lt (b / 16) 16 ≡ true = grind (arith, nat_tests, high) in
    let two : nat_lt (b % 16) 16 ≡ true = grind (arith, nat_tests, low) in
    rw (glyph_digit (b / 16) high, glyph_digit (b % 16) low, one, two, hex_digits bytes h.1) refl

pub hex_length : (bytes : List ℕ) → length (flat_map hex_pair bytes) ≡ 2 * length bytes
hex_length [] = omega arith
hex_length (b ∷ bytes) = (let more = hex_length bytes in omega (arith, more))

-- ---- half bytes
digit_at : (front : List ℕ) (glyph : ℕ) (after : List ℕ) (j : ℕ) → j ≡ length after → digit_from_right (front ++ glyph ∷ after) j ≡ digit_value glyph
digit_at front glyph after j e =
    let all = length-append front (glyph ∷ after) in
    let at : length (front ++ glyph ∷ after) - 1 - j ≡ length front = omega (arith, all, e) in
    let fits : j < length (front ++ glyph ∷ after) = omega (arith, all, e) in
    let less : nat_lt j (length (front ++ glyph ∷ after)) ≡ true = grind (arith, nat_tests, fits) in
    rw (less, at) (ap digit_value (get_or-append_seam front glyph after 0))

half_bytes_are : (front bytes : List ℕ) → EachIsByte bytes → half_bytes Hexadecimal (front ++ flat_map hex_pair bytes) (length bytes) ≡ bytes
half_bytes_are front [] h = refl
half_bytes_are front (b ∷ bytes) h =
    let one = digit_glyph true (b / 16) in
    let two = digit_glyph true (b % 16) in
    let rest = flat_map hex_pair bytes in
    let small = h.0 in
    let many = hex_length bytes in
    let r = length bytes in
    let first : digit_from_right (front ++ one ∷ two ∷ rest) (r * 2 + 1) ≡ b / 16 =
    digit_at front one (two ∷ rest) (r * 2 + 1) (omega (arith, many)) ∙ rw (glyph_digit (b / 16) (omega (arith, small))) refl in
    let again : (front ++ (one ∷ [])) ++ (two ∷ rest) ≡ front ++ (one ∷ two ∷ rest) = append_assoc front (one ∷ []) (two ∷ rest) in
    let second : digit_from_right (front ++ one ∷ two ∷ rest) (r * 2) ≡ b % 16 =
    ap (λ k. digit_from_right k (r * 2)) (sym again) ∙ digit_at (front ++ (one ∷ [])) two rest (r * 2) (omega (arith, many)) ∙ rw (glyph_digit (b % 16) (omega arith)) refl in
    let entire : (front ++ (one ∷ two ∷ [])) ++ rest ≡ front ++ (one ∷ two ∷ rest) = append_assoc front (one ∷ two ∷ []) rest in
    let more : half_bytes Hexadecimal (front ++ one ∷ two ∷ rest) r ≡ bytes = ap (λ k. half_bytes Hexadecimal k r) (sym entire) ∙ half_bytes_are (front ++ (one ∷ two ∷ [])) bytes h.1 in
    let sum : b / 16 * 16 + b % 16 ≡ b = omega arith in
    rw (first, second, more) (ap (λ k. k ∷ bytes) sum)

-- ---- the constant
closed_is : (hex : List ℕ) → before_apostrophe (hex ++ 39 ∷ []) ≡ Some hex
closed_is hex =
    let all = length-append hex (39 ∷ []) in
    let at : length (hex ++ 39 ∷ []) - 1 ≡ length hex = omega (arith, all) in
    let mark : slice_index (hex ++ 39 ∷ []) (length hex) ≡ 39 = get_or-append_seam hex 39 [] 0 in
    rw (at, mark) (ap Some (take-append_seam hex (39 ∷ [])))

none_doubled : (hex : List ℕ) → ArePlain hex → is_doubled 39 false hex ≡ true
none_doubled [] h = refl
none_doubled (c ∷ hex) h = rw (other c 39 h.0 (omega arith), none_doubled hex h.1) refl

value_is : (hex : List ℕ) → ArePlain hex → 0 < length hex → value_in false Hexadecimal false (39 ∷ (hex ++ 39 ∷ [])) ≡ Some (Some hex)
value_is hex plain some =
    let after : (suc (length (hex ++ 39 ∷ [])) == 0) ≡ false = grind (arith, nat_tests) in
    let filled : (length hex == 0) ≡ false = grind (arith, nat_tests, some) in
    rw (after, closed_is hex, filled, none_doubled hex plain) refl

pub constant_is : (hex : List ℕ) → ArePlain hex → 0 < length hex → constant_in false (88 ∷ 39 ∷ (hex ++ 39 ∷ [])) ≡ Ok (constant 1 Hexadecimal None (Some hex))
unfolding constant_in kind_of digit
constant_is hex plain some = rw (value_is hex plain some) refl

pub made_is : (whole : Whole) (counter : Option Value) (bytes : List ℕ) → EachIsByte bytes → 0 < length bytes
    → item_made whole false counter (88 ∷ 39 ∷ (flat_map hex_pair bytes ++ 39 ∷ [])) ≡ Ok (copy_of_constant bytes false)
unfolding constant_copy
made_is whole counter bytes h some =
    let hex = flat_map hex_pair bytes in
    let many = hex_length bytes in
    let filled : (length hex == 0) ≡ false = grind (arith, nat_tests, many, some) in
    let half : (length hex + 1) / 2 ≡ length bytes = omega (arith, many) in
    rw (constant_is hex (hex_plain bytes h) (omega (arith, many, some)), filled, hex_digits bytes h, half, half_bytes_are [] bytes h)
    (ap (λ k. Ok (copy_of_constant k false)) (append-nil bytes))
