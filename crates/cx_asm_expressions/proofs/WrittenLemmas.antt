-- The terms of an expression written again are its text.
use Rattle.std.proofs.Common.{◌≡◌, ℕ, ◌+◌, ◌-◌, ◌<◌, Bool, true, false, ◌&&◌, Option, Some, None, List, [], ◌∷◌, ◌++◌, length, map, drop, take, get_or, cond, refl, sym, ap, subst, ◌∙◌, ⊎_elim, append-nil, append_assoc, arith}
use Rattle.std.proofs.lemmas.Bool.{and_parts, cases_Bool}
use Rattle.std.specs.Prelude.{◌==◌, slice_index, option_and_then, option_map}
use Rattle.std.proofs.lemmas.List.{take_more}
use Rattle.std.proofs.Math.Seq.{take-length}
use Rattle.std.proofs.lemmas.Bool.Decides.{nat_tests}
use Rattle.std.specs.List.{flat_map}
use Rattle.cx_ebcdic.specs.Lookup.{each_some}
use Rattle.cx_source.specs.Lines.{is_symbol_name}
use Rattle.cx_source.specs.Marks.{outside_apostrophes}
use Rattle.cx_asm_expressions.specs.Digits.{is_number}
use Rattle.cx_asm_expressions.specs.Texts.{before_apostrophe}
use Rattle.cx_asm_expressions.specs.Terms.{Part, Term, is_sign, expression_parts_from, parts_of, term_of, self_defining, quoted_term, read_term, terms_of, is_short_number, is_short_text, written_sign, term_text}
use Rattle.cx_asm_expressions.specs.declared.terms.Sign.{Sign}
use Rattle.cx_asm_expressions.specs.declared.terms.Sign.TheVariants.{Plus}
use Rattle.cx_asm_expressions.specs.declared.terms.TermKind.TheVariants.{Symbol, Decimal}
use Rattle.cx_asm_expressions.proofs.TermLemmas.{sign_of}

-- a symbol or a decimal
abbrev plain_term : Sign → List ℕ → Option Term
plain_term sign text = cond (is_symbol_name text) (Some (term_of sign Symbol text)) (cond (is_number 10 text) (Some (term_of sign Decimal text)) None)

-- a part after its sign
abbrev part_text : Part → List ℕ
part_text part = written_sign part.sign ++ part.text

is_equal : (a b : ℕ) → (a == b) ≡ true → a ≡ b
is_equal a b e = grind (arith, nat_tests)

sign_again : (c : ℕ) → is_sign c ≡ true → written_sign (sign_of c) ≡ c ∷ []
sign_again c e =
    ⊎_elim (λ m. let h : c ≡ 45 = is_equal c 45 m in rw m (ap (λ x. x ∷ []) (sym h)))
    (λ d. let h : c ≡ 43 = grind (arith, nat_tests) in rw d (ap (λ x. x ∷ []) (sym h))) (cases_Bool (c == 45))

parts_again : (sign : Sign) (text after : List ℕ) (outs : List Bool) → flat_map part_text (expression_parts_from sign text after outs) ≡ written_sign sign ++ (text ++ after)
parts_again sign text [] outs = simp append-nil
parts_again sign text (c ∷ after) [] = parts_again sign (text ++ c ∷ []) after [] ∙ simp append_assoc
parts_again sign text (c ∷ after) (out ∷ outs) =
    ⊎_elim (λ cut. let s : is_sign c ≡ true = (and_parts out (is_sign c) cut).1 in
    let rest : flat_map part_text (expression_parts_from (sign_of c) [] after outs) ≡ c ∷ after = parts_again (sign_of c) [] after outs ∙ ap (λ w. w ++ after) (sign_again c s) in
    rw (cut, rest) (simp append_assoc))
    (λ kept. rw kept (parts_again sign (text ++ c ∷ []) after outs ∙ simp append_assoc)) (cases_Bool (out && is_sign c))

-- a term that a part writes is written as that part is
abbrev Again : Part → Option Term → Type 0
Again part None = Unit {0}
Again part (Some term) = term_text term ≡ part_text part

again_if : (part : Part) (b : Bool) (one other : Option Term) → (b ≡ true → Again part one) → (b ≡ false → Again part other) → Again part (cond b one other)
again_if part true one other holds fails = holds refl
again_if part false one other holds fails = fails refl

again_and : (part : Part) (found : Option (List ℕ)) (f : List ℕ → Option Term) → ((body : List ℕ) → found ≡ Some body → Again part (f body)) → Again part (option_and_then f found)
again_and part None f each = tt
again_and part (Some body) f each = each body refl

if_some : (b : Bool) (x : List ℕ) (y : List ℕ) → cond b (Some x) None ≡ Some y → (b ≡ true) × (x ≡ y)
if_some true x y e = (refl, cc)
if_some false x y e = cc

nonempty : (xs : List ℕ) → get_or xs (length xs - 1) 0 ≡ 39 → 0 < length xs
nonempty [] e = absurd (omega arith)
nonempty (x ∷ xs) e = omega arith

ends_again : (after body : List ℕ) → get_or after (length after - 1) 0 ≡ 39 → take (length after - 1) after ≡ body → body ++ 39 ∷ [] ≡ after
ends_again after body last e =
    let some : 0 < length after = nonempty after last in
    let more : take ((length after - 1) + 1) after ≡ take (length after - 1) after ++ get_or after (length after - 1) 0 ∷ [] =
    take_more after (length after - 1) 0 (omega arith) in
    let count : (length after - 1) + 1 ≡ length after = omega arith in
    ap (λ b. b ++ 39 ∷ []) (sym e) ∙ ap (λ x. take (length after - 1) after ++ x ∷ []) (sym last) ∙ sym more ∙ ap (λ n. take n after) count ∙ take-length after

-- a text that ends with an apostrophe
closed_again : (after body : List ℕ) → before_apostrophe after ≡ Some body → body ++ 39 ∷ [] ≡ after
closed_again after body e =
    let parts = if_some (slice_index after (length after - 1) == 39) (take (length after - 1) after) body e in
    let last : get_or after (length after - 1) 0 ≡ 39 = is_equal _ _ parts.0 in
    ends_again after body last parts.1

two_front : (text : List ℕ) → get_or text 1 0 ≡ 39 → text ≡ get_or text 0 0 ∷ 39 ∷ drop 2 text
two_front [] e = absurd (omega arith)
two_front (x ∷ []) e = absurd (omega arith)
two_front (x ∷ y ∷ text) e = ap (λ z. x ∷ z ∷ text) e

one_only : (text : List ℕ) → get_or text 0 0 ≡ 42 → length text ≡ 1 → 42 ∷ [] ≡ text
one_only [] e n = absurd (omega arith)
one_only (x ∷ []) e n = ap (λ z. z ∷ []) (sym e)
one_only (x ∷ y ∷ text) e n = absurd (omega arith)

-- what an apostrophe after a letter begins
defined_again : (part : Part) (letter : ℕ) (after body : List ℕ) → part.text ≡ letter ∷ 39 ∷ after → body ++ 39 ∷ [] ≡ after
    → Again part (self_defining part.sign letter body)
defined_again part letter after body text ends =
    again_if part (letter == 88 && is_short_number 16 8 body) _ _
    (λ holds. quote 88 (is_equal _ _ (and_parts (letter == 88) _ holds).0))
    (λ fails. again_if part (letter == 66 && is_short_number 2 32 body) _ _
    (λ holds. quote 66 (is_equal _ _ (and_parts (letter == 66) _ holds).0))
    (λ fails2. again_if part (letter == 67 && is_short_text body) _ _
    (λ holds. quote 67 (is_equal _ _ (and_parts (letter == 67) _ holds).0)) (λ fails3. tt)))
  where
    quote : (c : ℕ) → letter ≡ c → written_sign part.sign ++ (c ∷ 39 ∷ (body ++ 39 ∷ [])) ≡ written_sign part.sign ++ part.text
    quote c is = ap (λ w. written_sign part.sign ++ w) (ap (λ w. c ∷ 39 ∷ w) ends ∙ ap (λ x. x ∷ 39 ∷ after) (sym is) ∙ sym text)

quoted_again : (part : Part) (letter : ℕ) (after : List ℕ) → part.text ≡ letter ∷ 39 ∷ after → Again part (quoted_term part.sign letter after)
quoted_again part letter after text =
    again_if part (letter == 76) _ _
    (λ l. again_if part (is_symbol_name after) _ _
    (λ holds. ap (λ w. written_sign part.sign ++ w) (ap (λ x. x ∷ 39 ∷ after) (sym (is_equal _ _ l)) ∙ sym text)) (λ fails. tt))
    (λ fails. again_and part (before_apostrophe after) (self_defining part.sign letter) (λ body c. defined_again part letter after body text (closed_again after body c)))

plain_again : (part : Part) → Again part (plain_term part.sign part.text)
plain_again part = again_if part (is_symbol_name part.text) _ _ (λ holds. refl) (λ fails. again_if part (is_number 10 part.text) _ _ (λ holds. refl) (λ fails2. tt))

read_again : (part : Part) → Again part (read_term part)
unfolding read_term
read_again part =
    again_if part (slice_index part.text 1 == 39) _ _
    (λ q. quoted_again part (slice_index part.text 0) (drop 2 part.text) (two_front part.text (is_equal _ _ q)))
    (λ fails. again_if part (slice_index part.text 0 == 42 && length part.text == 1) _ _
    (λ star. let parts = and_parts (slice_index part.text 0 == 42) (length part.text == 1) star in
    ap (λ w. written_sign part.sign ++ w) (one_only part.text (is_equal _ _ parts.0) (is_equal _ _ parts.1)))
    (λ fails2. plain_again part))

next_again : (part : Part) (parts : List Part) (terms : List Term) (first : Option Term) (rest : Option (List Term)) → Again part first
    → ((more : List Term) → rest ≡ Some more → flat_map term_text more ≡ flat_map part_text parts)
    → option_and_then (λ f. option_map (λ more. f ∷ more) rest) first ≡ Some terms → flat_map term_text terms ≡ part_text part ++ flat_map part_text parts
next_again part parts terms None rest a h e = cc
next_again part parts terms (Some f) None a h e = cc
next_again part parts terms (Some f) (Some more) a h e =
    let k : f ∷ more ≡ terms = cc in
    subst (λ ts. flat_map term_text ts ≡ part_text part ++ flat_map part_text parts) k
    (ap (λ w. w ++ flat_map term_text more) a ∙ ap (λ w. part_text part ++ w) (h more refl))

all_again : (parts : List Part) (terms : List Term) → each_some (map read_term parts) ≡ Some terms → flat_map term_text terms ≡ flat_map part_text parts
all_again [] terms e = let k : [] ≡ terms = cc in subst (λ ts. flat_map term_text ts ≡ []) k refl
all_again (part ∷ parts) terms e =
    next_again part parts terms (read_term part) (each_some (map read_term parts)) (read_again part) (λ more f. all_again parts more f) e

pub written_again : (text : List ℕ) (terms : List Term) → terms_of text ≡ Some terms → flat_map term_text terms ≡ 43 ∷ text
unfolding terms_of
written_again text terms e = all_again (parts_of text) terms e ∙ parts_again Plus [] text (outside_apostrophes text)
