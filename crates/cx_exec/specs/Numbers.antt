-- Fixed-point numbers: words as signed numbers, and the condition codes that numbers set
-- (GA22-7000, "Fixed-Point Data Format", "Add", "Compare").
use Rattle.std.specs.Prelude.{ℕ, ◌+◌, ◌*◌, ◌^◌, Bool, ◌&&◌, not, List, [], ◌∷◌, length, ℤ, pos, neg_ℤ, int_lt, unsigned_abs, if◌then◌else◌}
use Rattle.std.specs.Int.{w16, w32, w64, cast_signed, int_rem_euclid}

-- bytes as one unsigned number, the first byte the highest
abbrev pub number_of : List ℕ → ℕ
number_of [] = 0
number_of (b ∷ bs) = b * 256 ^ length bs + number_of bs

-- a word as a signed number, in two's complement
abbrev pub signed_word : ℕ → ℤ
signed_word word = cast_signed w32 word

-- the word that a number leaves: the number modulo 2^32
abbrev pub word_of : ℤ → ℕ
word_of x = unsigned_abs (int_rem_euclid x (pos (2 ^ 32)))

-- a halfword, extended to a word by its sign
abbrev pub extend_sign : ℕ → ℕ
extend_sign halfword = word_of (cast_signed w16 halfword)

-- a doubleword as a signed number, and the doubleword that a number leaves
abbrev pub signed_double : ℕ → ℤ
signed_double double = cast_signed w64 double

abbrev pub double_of : ℤ → ℕ
double_of x = unsigned_abs (int_rem_euclid x (pos (2 ^ 64)))

-- 0 equal, 1 the first is low, 2 the first is high
unfoldable pub order_code : ℤ → ℤ → ℕ
order_code x y = if int_lt x y then 1 else (if int_lt y x then 2 else 0)

-- 0 zero, 1 less than zero, 2 greater than zero
abbrev pub sign_code : ℤ → ℕ
sign_code x = order_code x (pos 0)

-- whether a word can hold the number
abbrev pub fits_word : ℤ → Bool
fits_word x = not (int_lt x (neg_ℤ (pos (2 ^ 31)))) && int_lt x (pos (2 ^ 31))

-- the code of an exact result: 3 where no word holds it
unfoldable pub sum_code : ℤ → ℕ
sum_code x = if fits_word x then sign_code x else 3
