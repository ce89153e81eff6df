-- The words of a line, which are separated by one blank, and what they spell (own).
use Rattle.std.specs.Prelude.{ℕ, ◌+◌, ◌-◌, ◌*◌, ◌&&◌, ◌==◌, Bool, nat_le, if◌then◌else◌, Option, Some, None, is_some, unwrap_or, List, length, take, drop, fold, position}
use Rattle.std.specs.List.{filter_map, list_all}
use Rattle.std.specs.Option.{option_and_then, option_map}
use Rattle.std.specs.Result.{result_ok}
use Rattle.std.specs.Char.{is_ascii_digit}
use Rattle.hex.specs.Hex.{decode_of}
use Rattle.cx_ebcdic.specs.Characters.{code_of}

abbrev pub is_blank : ℕ → Bool
is_blank c = c == 32

-- the first word: up to the first blank
abbrev pub word : List ℕ → List ℕ
word text = take (unwrap_or (position is_blank text) (length text)) text

-- what follows the first blank, where there is one
abbrev pub after_first_blank : List ℕ → Option (List ℕ)
after_first_blank text = option_map (λ place. drop (place + 1) text) (position is_blank text)

-- what two words make, by what each of them spells: both must be there
abbrev pub two_words : {A B C : Type 0} → (A → B → C) → (List ℕ → Option A) → (List ℕ → Option B) → List ℕ → Option C
two_words make first second text =
    option_and_then (λ a. option_map (make a) (option_and_then second (after_first_blank text))) (first (word text))

-- the number that decimal digits spell
abbrev pub decimal : List ℕ → ℕ
decimal digits = fold (λ number digit. number * 10 + (digit - 48)) 0 digits

-- a number of a given range of decimal digits
unfoldable pub number_with_digits : ℕ → ℕ → List ℕ → Option ℕ
number_with_digits least most text =
    let fits = nat_le least (length text) && nat_le (length text) most && list_all is_ascii_digit text in
    if fits then Some (decimal text) else None

-- the codes of a key's text: at most 1,920 characters, each with a code
unfoldable pub codes_of_key : List ℕ → Option (List ℕ)
codes_of_key text =
    let fits = nat_le (length text) 1920 && list_all (λ c. is_some (code_of c)) text in
    if fits then Some (filter_map code_of text) else None

-- the bytes that pairs of hexadecimal digits spell
unfoldable pub hex_bytes : List ℕ → Option (List ℕ)
hex_bytes line = result_ok (decode_of line)
