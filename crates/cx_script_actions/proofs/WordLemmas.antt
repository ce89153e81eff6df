-- What spells no name, and how large a number of digits is.
use Rattle.std.proofs.Common.{◌≡◌, ℕ, suc, ◌+◌, ◌-◌, ◌*◌, ◌<◌, ◌≤◌, ◌^◌, Bool, true, false, ◌&&◌, cond, List, [], ◌∷◌, length, map, get_or, None, Some, Option, nat_le, refl, add-one, lit<, arith}
use Rattle.std.specs.List.{list_all, filter_map, cons_option}
use Rattle.cx_ebcdic.specs.Characters.{code_of}
use Rattle.std.specs.Char.{is_ascii_digit}
use Rattle.std.specs.Str.{IsAscii, IsUtf8}
use Rattle.std.specs.Option.{option_map}
use Rattle.std.proofs.Math.Nat.{pow-le-pow_right}
use Rattle.std.proofs.lemmas.Option.{option_and_then_some}
use Rattle.std.proofs.lemmas.Bool.Decides.{nat_tests}
use Rattle.std.proofs.lemmas.List.Sums.{AllPass-from_list_all}
use Rattle.std.proofs.lemmas.Str.{IsUtf8-from_ascii}
use Rattle.std.proofs.lemmas.Str.Ascii.{IsAscii-nil, IsAscii-cons}
use Rattle.cx_ebcdic.specs.Names.{padded_name, name_code, is_name_character, pad}
use Rattle.cx_ebcdic.specs.Lookup.{each_some}

name_below : (c : ℕ) → is_name_character c ≡ true → c < 128
unfolding is_name_character
name_below c e = grind (arith, nat_tests)

-- a name's character has a code
coded : (b : Bool) (r : Option ℕ) (x : ℕ) → cond b r None ≡ Some x → b ≡ true
coded true r x e = refl
coded false r x e = cc

-- a text of a name's characters is ASCII
name_ascii : (text bytes : List ℕ) → each_some (map name_code text) ≡ Some bytes → IsAscii text
unfolding name_code
name_ascii [] bytes e = IsAscii-nil
name_ascii (c ∷ cs) bytes e =
    let rest = each_some (map name_code cs) in
    option_and_then_some (λ (first : ℕ). option_map (λ rest. first ∷ rest) rest) (name_code c) bytes e (λ first head tail.
    IsAscii-cons c cs (name_below c (coded (is_name_character c) _ first head)) (mapped_some first rest bytes tail (λ inner. name_ascii cs inner))
    ) where
      mapped_some : (first : ℕ) (o : Option (List ℕ)) (bytes : List ℕ) → option_map (λ rest. first ∷ rest) o ≡ Some bytes → ((inner : List ℕ) → o ≡ Some inner → IsAscii cs) → IsAscii cs
      mapped_some first None bytes e h = cc
      mapped_some first (Some inner) bytes e h = h inner refl

not_some : {A B : Type 0} (b : Bool) (o : Option A) (f : A → B) → ((x : A) → o ≡ Some x → ⊥) → cond b (option_map f o) None ≡ None
not_some false o f h = refl
not_some true None f h = refl
not_some true (Some x) f h = absurd (h x refl)

pub no_name : (width : ℕ) (text : List ℕ) → ¬ (IsUtf8 text) → padded_name width text ≡ None
unfolding padded_name
no_name width text h =
    not_some (nat_le 1 (length text) && nat_le (length text) width) (each_some (map name_code text)) (pad width)
    (λ bytes e. h (IsUtf8-from_ascii text (name_ascii text bytes e)))

-- a power of ten with an exponent below 9 is at most 10^8
pub power_bound : (i : ℕ) → i < 9 → 10 ^ i ≤ 100000000
power_bound i h = let few : i ≤ 8 = omega arith in let positive : 0 < 10 = lit< tt in pow-le-pow_right positive few

pub next_power : (i : ℕ) → 10 ^ (i + 1) ≡ 10 * 10 ^ i
next_power i = rw add-one (grind arith)

in_range : (c : ℕ) → is_ascii_digit c ≡ true → (48 ≤ c) × (c ≤ 57)
in_range c e = grind (arith, nat_tests)

pub digit_at : (digits : List ℕ) (i d : ℕ) → list_all is_ascii_digit digits ≡ true → i < length digits → (48 ≤ get_or digits i d) × (get_or digits i d ≤ 57)
digit_at digits i d h l =
    let one : is_ascii_digit (get_or digits i d) ≡ true = AllPass-from_list_all is_ascii_digit digits h i d l in
    in_range (get_or digits i d) one

-- one digit more
pub digit_fits : (number i digit : ℕ) → i < 9 → number < 10 ^ i → digit ≤ 57 → (number * 10 + (digit - 48) < 10 ^ (i + 1)) × (number * 10 + (digit - 48) < 2 ^ 32) × (number * 10 < 2 ^ 32)
digit_fits number i digit h n d =
    let bound = power_bound i h in
    let next = next_power i in
    (omega (arith, next), omega (arith, bound), omega (arith, bound))

pub within_power : (number len most : ℕ) → number < 10 ^ len → len ≤ most → number < 10 ^ most
within_power number len most h l = let positive : 0 < 10 = lit< tt in let more = pow-le-pow_right positive l in omega (arith, more)

-- not more codes than characters
few_with : (o : Option ℕ) (codes text : List ℕ) → length codes ≤ length text → length (cons_option o codes) ≤ suc (length text)
few_with None codes text h = omega arith
few_with (Some code) codes text h = omega arith

pub few_codes : (text : List ℕ) → length (filter_map code_of text) ≤ length text
few_codes [] = omega arith
few_codes (c ∷ cs) = few_with (code_of c) (filter_map code_of cs) cs (few_codes cs)
