-- Texts without a mark: digits, letters.
use Rattle.std.specs.Prelude.{decimal, nat_lt, ◌&&◌}
use Rattle.std.proofs.Common.{◌≡◌, ◌≤◌, ◌<◌, ℕ, zero, suc, ◌/◌, ◌%◌, ◌^◌, Bool, true, false, cond, ◌==◌, Some, List, [], ◌∷◌, ◌++◌, length, map, refl, sym, ◌∙◌, ap, arith}
use Rattle.std.specs.Char.{digit_value as glyph_value}
use Rattle.std.specs.Fmt.{digits, digit_glyph, digits_onto}
use Rattle.std.specs.Int.Digits.{number_from_digits}
use Rattle.std.specs.List.{AllByRecursion, list_all}
use Rattle.std.specs.Str.Parse.{AllDigits}
use Rattle.std.proofs.lemmas.Bool.Decides.{nat_tests}
use Rattle.std.proofs.lemmas.Fmt.{decimal_is_IsNumeral}
use Rattle.std.proofs.lemmas.Int.Digits.{digits_value_is}
use Rattle.std.proofs.lemmas.List.{append_assoc, append-nil}
use Rattle.cx_source.specs.Marks.{scan_depth_after, is_mark, lies_outside, outside_from, parts_from, scan_after, within_after}
use Rattle.cx_source.specs.declared.marks.Delimiter.TheVariants.{TopComma}
use Rattle.cx_source.specs.declared.marks.Scan.{Scan}
use Rattle.cx_asm_expressions.specs.Digits.{digit, is_digit, number_in, digit_value}
use Rattle.cx_source.specs.Lines.{is_letter, is_symbol_name}
use Rattle.cx_asm_expressions.specs.Terms.{is_sign, part_of, expression_parts_from as signed_parts_from, read_term, term_of}
use Rattle.cx_asm_expressions.specs.declared.terms.TermKind.TheVariants.{Decimal}
use Rattle.cx_asm_expressions.specs.declared.terms.Sign.{Sign}
use Rattle.cx_asm_expressions.specs.declared.terms.Sign.TheVariants.{Plus, Minus}

-- ---- every mark and every sign comes before the digits
abbrev pub ArePlain : List ℕ → Type 0
ArePlain text = AllByRecursion (λ c. 48 ≤ c) text

pub other : (c mark : ℕ) → 48 ≤ c → mark < 48 → (c == mark) ≡ false
other c mark h m = grind (arith, nat_tests)

within_same : (scan : Scan) (c : ℕ) (after : List ℕ) → 48 ≤ c → within_after scan c after ≡ scan.within
unfolding within_after
within_same scan c after h = rw (other c 39 h (omega arith)) refl

pub neither : (b : Bool) → (b && false) ≡ false
neither true = refl
neither false = refl

no_comma : (scan : Scan) (c : ℕ) (after : List ℕ) → 48 ≤ c → (lies_outside scan c after && is_mark TopComma scan.depth c) ≡ false
no_comma scan c after h = rw (other c 44 h (omega arith)) (neither (lies_outside scan c after))

depth_same : (scan : Scan) (c : ℕ) (after : List ℕ) → 48 ≤ c → scan_depth_after scan c after ≡ scan.depth
unfolding scan_depth_after
depth_same scan c after h = rw (other c 40 h (omega arith), other c 41 h (omega arith), neither (lies_outside scan c after)) refl

-- plain characters go into the part, and what follows them is cut
pub record Cut (scan : Scan) (part text rest : List ℕ) : Type 0 where
  pub before : ℕ
  pub last : ℕ
  pub is : parts_from TopComma scan part (text ++ rest)
      ≡ parts_from TopComma (record { within = scan.within; depth = scan.depth; before = before; last = last }) (part ++ text) rest

pub plain_cut : (scan : Scan) (part text rest : List ℕ) → ArePlain text → Cut scan part text rest
plain_cut scan part [] rest h =
    record { before = scan.before; last = scan.last; is = ap (λ p. parts_from TopComma scan p rest) (sym (append-nil part)) }
plain_cut scan part (c ∷ text) rest h =
    let next : Scan = record { within = scan.within; depth = scan.depth; before = scan.last; last = c } in
    let step : scan_after scan c (text ++ rest) ≡ next =
    ap (λ w. record { within = w; depth = scan_depth_after scan c (text ++ rest); before = scan.last; last = c }) (within_same scan c (text ++ rest) h.0)
    ∙ ap (λ d. record { within = scan.within; depth = d; before = scan.last; last = c }) (depth_same scan c (text ++ rest) h.0) in
    let more = plain_cut next (part ++ (c ∷ [])) text rest h.1 in
    record {
      before = more.before;
      last = more.last;
      is =
          ap (λ b. cond b (part ∷ parts_from TopComma (scan_after scan c (text ++ rest)) [] (text ++ rest)) (parts_from TopComma (scan_after scan c (text ++ rest)) (part ++ (c ∷ [])) (text ++ rest)))
          (no_comma scan c (text ++ rest) h.0)
          ∙ ap (λ s. parts_from TopComma s (part ++ (c ∷ [])) (text ++ rest)) step ∙ more.is
          ∙ ap (λ p. parts_from TopComma (record { within = scan.within; depth = scan.depth; before = more.before; last = more.last }) p rest) (append_assoc part (c ∷ []) text);
    }

-- there is no sign in it
pub plain_part : (sign : Sign) (scan : Scan) (part text : List ℕ) → ArePlain text → signed_parts_from sign part text (outside_from scan text) ≡ part_of sign (part ++ text) ∷ []
plain_part sign scan part [] h = ap (λ p. part_of sign p ∷ []) (sym (append-nil part))
plain_part sign scan part (c ∷ text) h =
    let none : (lies_outside scan c text && is_sign c) ≡ false = rw (other c 43 h.0 (omega arith), other c 45 h.0 (omega arith)) (neither (lies_outside scan c text)) in
    ap (λ b. cond b (part_of sign part ∷ signed_parts_from (cond (c == 45) Minus Plus) [] text (outside_from (scan_after scan c text) text)) (signed_parts_from sign (part ++ (c ∷ [])) text (outside_from (scan_after scan c text) text))) none
    ∙ plain_part sign (scan_after scan c text) (part ++ (c ∷ [])) text h.1 ∙ ap (λ p. part_of sign p ∷ []) (append_assoc part (c ∷ []) text)

-- ---- decimal digits
pub glyph_plain : (upper : Bool) (d : ℕ) → d < 16 → 48 ≤ digit_glyph upper d
glyph_plain true d h = grind (arith, nat_tests)
glyph_plain false d h = grind (arith, nat_tests)

onto_plain : (turns n : ℕ) (acc : List ℕ) → ArePlain acc → ArePlain (digits_onto turns 10 false n acc)
onto_plain zero n acc h = h
onto_plain (suc turns) n acc h =
    go (n / 10 == 0) (glyph_plain false (n % 10) (omega arith), h) (onto_plain turns (n / 10) (digit_glyph false (n % 10) ∷ acc) (glyph_plain false (n % 10) (omega arith), h))
  where
    go : (b : Bool) → ArePlain (digit_glyph false (n % 10) ∷ acc) → ArePlain (digits_onto turns 10 false (n / 10) (digit_glyph false (n % 10) ∷ acc))
        → ArePlain (cond b (digit_glyph false (n % 10) ∷ acc) (digits_onto turns 10 false (n / 10) (digit_glyph false (n % 10) ∷ acc)))
    go true one more = one
    go false one more = more

pub decimal_plain : (n : ℕ) → ArePlain (decimal n)
unfolding digits
decimal_plain n = onto_plain 64 n [] tt

-- ---- and their number
digit_same : (c : ℕ) → glyph_value c < 10 → digit c ≡ Some (glyph_value c)
unfolding digit
digit_same c h = grind (arith, nat_tests)

all_digits : (text : List ℕ) → AllDigits 10 text → (list_all (is_digit 10) text ≡ true) × (map digit_value text ≡ map glyph_value text)
all_digits [] h = (refl, refl)
all_digits (c ∷ text) h =
    let more = all_digits text h.1 in
    let same = digit_same c h.0 in
    let small : nat_lt (glyph_value c) 10 ≡ true = grind (arith, nat_tests, h.0) in
    (rw (same, small, more.0) refl, rw (same, more.1) refl)

pub record IsRead (n : ℕ) (text : List ℕ) : Type 0 where
  pub some : 0 < length text
  pub all : list_all (is_digit 10) text ≡ true
  pub number : number_in 10 text ≡ n

pub decimal_read : (n : ℕ) → n < 2 ^ 64 → IsRead n (decimal n)
decimal_read n h =
    let numeral = decimal_is_IsNumeral n h in
    let digits = all_digits (decimal n) (numeral.0).1 in
    record {
      some = (numeral.0).0;
      all = digits.0;
      number = ap (number_from_digits 10) digits.1 ∙ sym (digits_value_is 10 (decimal n)) ∙ numeral.1;
    }

-- ---- and the term that they are
no_letter : (c : ℕ) → is_digit 10 c ≡ true → is_letter c ≡ false
unfolding digit is_letter
no_letter c h = grind (arith, nat_tests)

pub split : (a b : Bool) → (a && b) ≡ true → (a ≡ true) × (b ≡ true)
split true b e = (refl, e)
split false b e = absurd (cc)

pub decimal_term : (text : List ℕ) → ArePlain text → list_all (is_digit 10) text ≡ true → 0 < length text → read_term (part_of Plus text) ≡ Some (term_of Plus Decimal text)
unfolding read_term is_symbol_name
decimal_term [] plain all some = absurd (omega arith)
decimal_term (c ∷ []) plain all some =
    rw (other c 42 plain.0 (omega arith), no_letter c (split (is_digit 10 c) true all).0, (split (is_digit 10 c) true all).0) refl
decimal_term (c ∷ d ∷ text) plain all some =
    let first = split (is_digit 10 c) (is_digit 10 d && list_all (is_digit 10) text) all in
    let more : (suc (suc (length text)) == 0) ≡ false = grind (arith, nat_tests) in
    rw (other d 39 plain.1.0 (omega arith), other c 42 plain.0 (omega arith), no_letter c first.0, first.0, first.1, more) refl
