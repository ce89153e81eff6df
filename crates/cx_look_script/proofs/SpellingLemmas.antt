-- Words of a line, names and numbers as they are written and read.
use Rattle.std.proofs.Common.{◌≡◌, ℕ, zero, suc, ◌+◌, ◌-◌, ◌*◌, ◌<◌, ◌≤◌, ◌^◌, Bool, true, false, true≢false, ◌&&◌, not, cond, Option, Some, None, List, [], ◌∷◌, ◌++◌, length, map, take, drop, nat_le, nat_lt, arith, ap, refl, sym, subst, ◌∙◌, lit<}
use Rattle.std.specs.Prelude.{◌==◌, position, replicate, unwrap_or}
use Rattle.std.specs.Char.{is_ascii_digit, to_ascii_uppercase}
use Rattle.std.specs.Fmt.{decimal}
use Rattle.std.specs.List.{fold, list_all, position_or_len, take_while}
use Rattle.std.specs.Option.{option_and_then, option_map}
use Rattle.std.proofs.lemmas.Bool.{eqb-true, le-leb, leb-true, lt-ltb, ltb-true}
use Rattle.std.proofs.lemmas.Bool.Decides.{nat_tests}
use Rattle.std.proofs.lemmas.Fmt.{decimal_nonempty, digits_decimal, digits_value-decimal, length-decimal-le}
use Rattle.std.proofs.lemmas.List.Sums.{take_while-cons}
use Rattle.std.proofs.lemmas.Option.{none-some, same_Some}
use Rattle.std.proofs.lemmas.Str.Parse.{FoldsDigits, IsDigitsTest, IsNumeralModel, numerals_by_fold}
use Rattle.cx_base.specs.Texts.{is_filled, shown_name}
use Rattle.cx_ebcdic.specs.Characters.{code_of, shown_as, table}
use Rattle.cx_ebcdic.specs.Lookup.{each_some}
use Rattle.cx_ebcdic.specs.Names.{is_name_character, name_code, pad, padded_name}
use Rattle.cx_look.specs.Looks.{at_most, count_up_to}
use Rattle.cx_script_actions.specs.Words.{after_first_blank, decimal as value_of, is_blank, number_with_digits, word}

both : (b c : Bool) → (b && c) ≡ true → (b ≡ true) × (c ≡ true)
both true true is = (refl, refl)
both true false is = absurd (true≢false (sym is))
both false c is = absurd (true≢false (sym is))

not_true : (b : Bool) → (b ≡ true → ⊥) → b ≡ false
not_true true never = absurd (never refl)
not_true false never = refl

-- ---- words
abbrev pub is_in_word : ℕ → Bool
is_in_word c = not (is_blank c)

len_word : (pre rest : List ℕ) → list_all is_in_word pre ≡ true → position_or_len is_blank (pre ++ 32 ∷ rest) ≡ length pre
len_word [] rest all = refl
len_word (c ∷ pre) rest all =
    let parts = both (is_in_word c) (list_all is_in_word pre) all in
    let more : 1 + position_or_len is_blank (pre ++ 32 ∷ rest) ≡ suc (length pre) = omega (arith, len_word pre rest parts.1) in
    ap (λ b. cond b (1 + position_or_len is_blank (pre ++ 32 ∷ rest)) 0) parts.0 ∙ more

len_alone : (pre : List ℕ) → list_all is_in_word pre ≡ true → position_or_len is_blank pre ≡ length pre
len_alone [] all = refl
len_alone (c ∷ pre) all =
    let parts = both (is_in_word c) (list_all is_in_word pre) all in
    let more : 1 + position_or_len is_blank pre ≡ suc (length pre) = omega (arith, len_alone pre parts.1) in
    ap (λ b. cond b (1 + position_or_len is_blank pre) 0) parts.0 ∙ more

within : (pre : List ℕ) (c : ℕ) (rest : List ℕ) → length pre < length (pre ++ c ∷ rest)
within [] c rest = omega arith
within (p ∷ pre) c rest = let l = within pre c rest in omega (arith, l)

take_front : (pre rest : List ℕ) → take (length pre) (pre ++ rest) ≡ pre
take_front [] rest = refl
take_front (c ∷ pre) rest = ap (λ l. c ∷ l) (take_front pre rest)

take_all : (pre : List ℕ) → take (length pre) pre ≡ pre
take_all [] = refl
take_all (c ∷ pre) = ap (λ l. c ∷ l) (take_all pre)

drop_front : (pre : List ℕ) (c : ℕ) (rest : List ℕ) (n : ℕ) → n ≡ suc (length pre) → drop n (pre ++ c ∷ rest) ≡ rest
drop_front [] c rest n e = ap (λ k. drop k (c ∷ rest)) e
drop_front (p ∷ pre) c rest n e = ap (λ k. drop k (p ∷ pre ++ c ∷ rest)) e ∙ drop_front pre c rest (suc (length pre)) refl

place_of : (pre rest : List ℕ) → list_all is_in_word pre ≡ true → position is_blank (pre ++ 32 ∷ rest) ≡ Some (length pre)
place_of pre rest all =
    ap (λ n. cond (nat_lt n (length (pre ++ 32 ∷ rest))) (Some n) None) (len_word pre rest all)
    ∙ ap (λ b. cond b (Some (length pre)) None) (lt-ltb (length pre) (length (pre ++ 32 ∷ rest)) (within pre 32 rest))

no_place : (pre : List ℕ) → list_all is_in_word pre ≡ true → position is_blank pre ≡ None
no_place pre all =
    ap (λ n. cond (nat_lt n (length pre)) (Some n) None) (len_alone pre all)
    ∙ ap (λ b. cond b (Some (length pre)) None) (not_true (nat_lt (length pre) (length pre)) (λ e. let l = ltb-true (length pre) (length pre) e in omega (arith, l)))

pub word_of : (pre rest : List ℕ) → list_all is_in_word pre ≡ true → word (pre ++ 32 ∷ rest) ≡ pre
word_of pre rest all =
    ap (λ (p : Option ℕ). take (unwrap_or p (length (pre ++ 32 ∷ rest))) (pre ++ 32 ∷ rest)) (place_of pre rest all) ∙ take_front pre (32 ∷ rest)

pub after_of : (pre rest : List ℕ) → list_all is_in_word pre ≡ true → after_first_blank (pre ++ 32 ∷ rest) ≡ Some rest
after_of pre rest all =
    ap (λ (p : Option ℕ). option_map (λ place. drop (place + 1) (pre ++ 32 ∷ rest)) p) (place_of pre rest all)
    ∙ ap Some (drop_front pre 32 rest (length pre + 1) (omega arith))

pub word_alone : (pre : List ℕ) → list_all is_in_word pre ≡ true → word pre ≡ pre
word_alone pre all = ap (λ (p : Option ℕ). take (unwrap_or p (length pre)) pre) (no_place pre all) ∙ take_all pre

pub after_alone : (pre : List ℕ) → list_all is_in_word pre ≡ true → after_first_blank pre ≡ None
after_alone pre all = ap (λ (p : Option ℕ). option_map (λ place. drop (place + 1) pre) p) (no_place pre all)

-- ---- characters of which all are so
pub all_so : (p q : ℕ → Bool) → ((c : ℕ) → p c ≡ true → q c ≡ true) → (cs : List ℕ) → list_all p cs ≡ true → list_all q cs ≡ true
all_so p q so [] all = refl
all_so p q so (c ∷ cs) all =
    let parts = both (p c) (list_all p cs) all in
    ap (λ b. b && list_all q cs) (so c parts.0) ∙ all_so p q so cs parts.1

upper_one : (c : ℕ) → c < 97 → to_ascii_uppercase c ≡ c
upper_one c l = ap (λ b. cond b c (cond (nat_lt c 123) (c - 32) c)) (lt-ltb c 97 l)

pub upper_all : (p : ℕ → Bool) → ((c : ℕ) → p c ≡ true → c < 97) → (cs : List ℕ) → list_all p cs ≡ true → map to_ascii_uppercase cs ≡ cs
upper_all p low [] all = refl
upper_all p low (c ∷ cs) all =
    let parts = both (p c) (list_all p cs) all in
    ap (λ u. u ∷ map to_ascii_uppercase cs) (upper_one c (low c parts.0)) ∙ ap (λ us. c ∷ us) (upper_all p low cs parts.1)

-- ---- names
pub name_low : (c : ℕ) → is_name_character c ≡ true → c < 97
unfolding is_name_character
name_low c e = grind (arith, nat_tests)

blank_is_none : is_name_character 32 ≡ false
unfolding is_name_character
blank_is_none = refl

pub name_in_word : (c : ℕ) → is_name_character c ≡ true → is_in_word c ≡ true
name_in_word c e = by (c == 32) refl
  where
    by : (b : Bool) → (c == 32) ≡ b → not b ≡ true
    by true is = absurd (true≢false (sym e ∙ ap is_name_character (eqb-true c 32 is) ∙ blank_is_none))
    by false is = refl

coded : {A : Type 0} (b : Bool) (r : Option A) (x : A) → cond b r None ≡ Some x → (b ≡ true) × (r ≡ Some x)
coded true r x e = (refl, e)
coded false r x e = absurd (none-some x e)

abbrev pub ShownAsItself : Type 0
ShownAsItself = (character code : ℕ) → code_of character ≡ Some code → shown_as code ≡ character

blank_code : code_of 32 ≡ Some 0x40
unfolding code_of table
blank_code = refl

-- a text of a name's characters is shown by their codes, none of which is a blank
record IsShownBy (text codes : List ℕ) : Type 0 where
  characters : list_all is_name_character text ≡ true
  shown : map shown_as codes ≡ text
  filled : list_all is_filled codes ≡ true

character_of : (c code : ℕ) → name_code c ≡ Some code → (is_name_character c ≡ true) × (code_of c ≡ Some code)
unfolding name_code
character_of c code e = coded (is_name_character c) (code_of c) code e

code_filled : ShownAsItself → (c code : ℕ) → is_name_character c ≡ true → code_of c ≡ Some code → is_filled code ≡ true
code_filled itself c code is e = by (code == 0x40) refl
  where
    by : (b : Bool) → (code == 0x40) ≡ b → not b ≡ true
    by true same =
        let blank : c ≡ 32 = sym (itself c code e) ∙ ap shown_as (eqb-true code 0x40 same) ∙ itself 32 0x40 blank_code in
        absurd (true≢false (sym is ∙ ap is_name_character blank ∙ blank_is_none))
    by false same = refl

one_shown : ShownAsItself → (c : ℕ) (text codes : List ℕ) (first : Option ℕ) (rest : Option (List ℕ)) → name_code c ≡ first
    → ((others : List ℕ) → rest ≡ Some others → IsShownBy text others)
    → option_and_then (λ one. option_map (λ others. one ∷ others) rest) first ≡ Some codes → IsShownBy (c ∷ text) codes
one_shown itself c text codes None rest p on e = absurd (none-some codes e)
one_shown itself c text codes (Some code) None p on e = absurd (none-some codes e)
one_shown itself c text codes (Some code) (Some others) p on e =
    let it = on others refl in
    let own = character_of c code p in
    subst (IsShownBy (c ∷ text)) (same_Some (code ∷ others) codes e) (record {
      characters = ap (λ b. b && list_all is_name_character text) own.0 ∙ it.characters;
      shown = ap (λ s. s ∷ map shown_as others) (itself c code own.1) ∙ ap (λ ss. c ∷ ss) it.shown;
      filled = ap (λ b. b && list_all is_filled others) (code_filled itself c code own.0 own.1) ∙ it.filled;
    })

shown_by : ShownAsItself → (text codes : List ℕ) → each_some (map name_code text) ≡ Some codes → IsShownBy text codes
shown_by itself [] codes e = subst (IsShownBy []) (same_Some [] codes e) (record { characters = refl; shown = refl; filled = refl })
shown_by itself (c ∷ text) codes e =
    one_shown itself c text codes (name_code c) (each_some (map name_code text)) refl (λ others is. shown_by itself text others is) e

filled_front : (codes : List ℕ) (k : ℕ) → list_all is_filled codes ≡ true → take_while is_filled (codes ++ replicate k 0x40) ≡ codes
filled_front [] zero all = refl
filled_front [] (suc k) all = take_while-cons is_filled 0x40 (replicate k 0x40)
filled_front (c ∷ codes) k all =
    let parts = both (is_filled c) (list_all is_filled codes) all in
    take_while-cons is_filled c (codes ++ replicate k 0x40)
    ∙ ap (λ b. cond b (c ∷ take_while is_filled (codes ++ replicate k 0x40)) []) parts.0
    ∙ ap (λ l. c ∷ l) (filled_front codes k parts.1)

-- a name as it is shown is the text that spells it
pub record IsShownAs (text name : List ℕ) : Type 0 where
  pub shown : shown_name name ≡ text
  pub characters : list_all is_name_character text ≡ true
  pub few : length text ≤ 4

pub name_shown : ShownAsItself → (text name : List ℕ) → padded_name 4 text ≡ Some name → IsShownAs text name
unfolding padded_name shown_name
name_shown itself text name e = by (each_some (map name_code text)) refl parts.1
  where
    parts : ((nat_le 1 (length text) && nat_le (length text) 4) ≡ true) × (option_map (pad 4) (each_some (map name_code text)) ≡ Some name)
    parts = coded (nat_le 1 (length text) && nat_le (length text) 4) (option_map (pad 4) (each_some (map name_code text))) name e

    by : (codes : Option (List ℕ)) → each_some (map name_code text) ≡ codes → option_map (pad 4) codes ≡ Some name → IsShownAs text name
    by None p q = absurd (none-some name q)
    by (Some codes) p q =
        let it = shown_by itself text codes p in
        record {
          shown = ap (λ n. map shown_as (take_while is_filled n)) (sym (same_Some (pad 4 codes) name q))
              ∙ ap (λ l. map shown_as l) (filled_front codes (4 - length codes) it.filled) ∙ it.shown;
          characters = it.characters;
          few = leb-true (length text) 4 (both (nat_le 1 (length text)) (nat_le (length text) 4) parts.0).1;
        }

-- ---- numbers
pub digit_range : (c : ℕ) → is_ascii_digit c ≡ true → (48 ≤ c) × (c ≤ 57)
digit_range c e = grind (arith, nat_tests)

pub digit_low : (c : ℕ) → is_ascii_digit c ≡ true → c < 97
digit_low c e = let range = digit_range c e in omega (arith, range.1)

pub digit_in_word : (c : ℕ) → is_ascii_digit c ≡ true → is_in_word c ≡ true
digit_in_word c e = by (c == 32) refl
  where
    by : (b : Bool) → (c == 32) ≡ b → not b ≡ true
    by true is = let range = digit_range c e in let same = eqb-true c 32 is in absurd (omega (arith, range.0, same))
    by false is = refl

digit_is : (c : ℕ) → 48 ≤ c → c ≤ 57 → is_ascii_digit c ≡ true
digit_is c least most = ap (λ b. b && nat_le c 57) (le-leb 48 c least) ∙ le-leb c 57 most

tells : IsDigitsTest (λ ds. list_all is_ascii_digit ds ≡ true)
tells = record {
  empty = refl;
  parts = λ c cs e. let parts = both (is_ascii_digit c) (list_all is_ascii_digit cs) e in (digit_range c parts.0, parts.1);
  more = λ c cs range all. ap (λ b. b && list_all is_ascii_digit cs) (digit_is c range.0 range.1) ∙ all;
}

abbrev value_after : ℕ → List ℕ → ℕ
value_after n digits = fold (λ number digit. number * 10 + (digit - 48)) n digits

folds : FoldsDigits value_after
folds = record { empty = λ n. refl; more = λ n c cs range. refl }

model : IsNumeralModel (λ ds. list_all is_ascii_digit ds ≡ true) value_of
model = numerals_by_fold (λ ds. list_all is_ascii_digit ds ≡ true) tells value_after folds

small : (n : ℕ) → n ≤ 4096 → n < 2 ^ 64
small n l = let big : 4096 < 2 ^ 64 = lit< tt in omega (arith, l, big)

pub all_digits : (n : ℕ) → n ≤ 4096 → list_all is_ascii_digit (decimal n) ≡ true
all_digits n l = digits_decimal model n (small n l)

pub few_digits : (n : ℕ) → n ≤ 4096 → length (decimal n) ≤ 5
few_digits n l =
    let big : 4096 < 10 ^ 5 = lit< tt in
    length-decimal-le 5 n (omega arith) (omega (arith, l, big)) (small n l)

pub counted : (n : ℕ) → 1 ≤ n → n ≤ 4096 → count_up_to 4096 (decimal n) ≡ Some n
unfolding count_up_to number_with_digits
counted n least most =
    let fits = ap (λ b. b && nat_le (length (decimal n)) 5 && list_all is_ascii_digit (decimal n)) (le-leb 1 (length (decimal n)) (decimal_nonempty n (small n most)))
    ∙ ap (λ b. b && list_all is_ascii_digit (decimal n)) (le-leb (length (decimal n)) 5 (few_digits n most)) ∙ all_digits n most in
    ap (λ b. option_and_then (at_most 4096) (cond b (Some (value_of (decimal n))) None)) fits
    ∙ ap (λ v. at_most 4096 v) (digits_value-decimal model n (small n most))
    ∙ ap (λ b. cond (b && nat_le n 4096) (Some n) None) (le-leb 1 n least)
    ∙ ap (λ b. cond b (Some n) None) (le-leb n 4096 most)
