-- The characters between apostrophes (GC33-4010, "Character Self-Defining Term", "Character Constant -- C").
use Rattle.std.specs.Prelude.{ℕ, ◌-◌, Bool, false, not, ◌&&◌, ◌||◌, ◌==◌, if◌then◌else◌, Option, Some, None, is_some, List, [], ◌∷◌, length, map, take, unwrap_or, slice_index}
use Rattle.std.specs.List.{list_all}
use Rattle.std.specs.Int.Digits.{number_from_digits}
use Rattle.std.specs.Str.{byte}
use Rattle.cx_ebcdic.specs.Characters.{code_of}

-- what precedes the apostrophe that ends a text
abbrev pub before_apostrophe : List ℕ → Option (List ℕ)
before_apostrophe after =
    if slice_index after (length after - 1) == byte "'" then Some (take (length after - 1) after) else None

-- A mark comes in twos alone; `opened` says that one precedes already.
abbrev pub is_doubled : ℕ → Bool → List ℕ → Bool
is_doubled mark opened [] = not opened
is_doubled mark opened (c ∷ cs) =
    if c == mark then is_doubled mark (not opened) cs else not opened && is_doubled mark false cs

-- Apostrophes and ampersands come in twos.
abbrev pub is_paired : List ℕ → Bool
is_paired body = is_doubled (byte "'") false body && is_doubled (byte "&") false body

abbrev pub is_doubled_mark : ℕ → Bool
is_doubled_mark c = c == byte "'" || c == byte "&"

-- the characters, of two apostrophes or ampersands one
abbrev pub single : Bool → List ℕ → List ℕ
single opened [] = []
single opened (c ∷ cs) = if opened && is_doubled_mark c then single false cs else c ∷ single (is_doubled_mark c) cs

abbrev pub characters : List ℕ → List ℕ
characters body = single false body

abbrev pub code : ℕ → ℕ
code c = unwrap_or (code_of c) 0

-- every character has a code
abbrev pub has_codes : List ℕ → Bool
has_codes body = list_all (λ c. is_some (code_of c)) body

-- the codes, one after the other as one number
abbrev pub character_number : List ℕ → ℕ
character_number body = number_from_digits 256 (map code (characters body))
