-- The number of a list of bytes: when it is zero, and how two of them compare.
use Rattle.std.proofs.Common.{◌≡◌, ◌≢◌, ℕ, true, false, zero, suc, ◌+◌, ◌-◌, ◌*◌, ◌^◌, ◌<◌, ◌≤◌, ◌==◌, List, [], ◌∷◌, length, take, drop, slice_index, slice_range, pos, refl, sym, ◌∙◌, inl, inr, arith}
use Rattle.std.proofs.lemmas.Bool.{cases_eq, cases_lt, eq-eqb, ne_eqb, lt-ltb, le-ltb}
use Rattle.std.proofs.lemmas.List.{get_or-take, get_or-drop}
use Rattle.std.proofs.Math.Nat.{one-le-pow, mul-le-mul_right}
use Rattle.byteorder.specs.Endian.{big_from, big_number}
use Rattle.cx_exec.specs.Numbers.{number_of}
use Rattle.cx_exec.specs.Numbers.{order_code}

power_some : (n : ℕ) → 0 < 256 ^ n
power_some n = let one = one-le-pow n 256 (omega arith) in omega (arith, one)

product_some : (b p : ℕ) → b ≢ 0 → 0 < p → 0 < b * p
product_some b p h some =
    let least : 1 * p ≤ b * p = mul-le-mul_right p (omega (arith, h)) in
    omega (arith, least, some)

-- a list of bytes that are all zero is zero, and one with any other byte isn't
pub each_zero : (bytes : List ℕ) → ((j : ℕ) → j < length bytes → slice_index bytes j ≡ 0) → number_of bytes ≡ 0
each_zero [] each = refl
each_zero (b ∷ bs) each =
    let first : b ≡ 0 = each 0 (omega arith) in
    let rest = each_zero bs (λ j h. each (suc j) (omega (arith, h))) in
    rw (first, rest) (omega arith)

pub some_not_zero : (bytes : List ℕ) (k : ℕ) → k < length bytes → slice_index bytes k ≢ 0 → number_of bytes ≢ 0
some_not_zero [] k h some = absurd (omega arith)
some_not_zero (b ∷ bs) zero h some = let more = product_some b (256 ^ length bs) some (power_some (length bs)) in λ e. omega (arith, e, more)
some_not_zero (b ∷ bs) (suc k) h some = let rest = some_not_zero bs k (omega (arith, h)) some in λ e. rest (omega (arith, e))

pub zero_is : (bytes : List ℕ) → ((j : ℕ) → j < length bytes → slice_index bytes j ≡ 0) → true ≡ (number_of bytes == 0)
zero_is bytes each = sym (eq-eqb (number_of bytes) 0 (each_zero bytes each))

pub zero_is_not : (bytes : List ℕ) (k : ℕ) → k < length bytes → slice_index bytes k ≢ 0 → false ≡ (number_of bytes == 0)
zero_is_not bytes k h some = sym (ne_eqb (number_of bytes) 0 (some_not_zero bytes k h some))

-- the bytes of a number that is zero
pub zero_bytes : (xs : List ℕ) (i n : ℕ) → big_from i n xs ≡ 0 → (j : ℕ) → i ≤ j → j < i + n → slice_index xs j ≡ 0
zero_bytes xs i zero e j low high = absurd (omega (arith, low, high))
zero_bytes xs i (suc n) e j low high = elim (cases_eq (slice_index xs i) 0) [
  | inl first ↦ elim (cases_eq j i) [
    | inl here ↦ rw here first
    | inr past ↦ zero_bytes xs (suc i) n (omega (arith, e)) j (omega (arith, past, low)) (omega (arith, high))
  ]
  | inr some ↦ let more = product_some (slice_index xs i) (256 ^ n) some (power_some n) in absurd (omega (arith, e, more))
]

-- the order of two numbers
order_low : (a b : ℕ) → a < b → order_code (pos a) (pos b) ≡ 1
unfolding order_code
order_low a b h = rw (lt-ltb a b h) refl

order_high : (a b : ℕ) → b < a → order_code (pos a) (pos b) ≡ 2
unfolding order_code
order_high a b h = rw (le-ltb a b (omega arith), lt-ltb b a h) refl

order_same : (a : ℕ) → order_code (pos a) (pos a) ≡ 0
unfolding order_code
order_same a = rw (le-ltb a a (omega arith)) refl

order_shifted : (c a b : ℕ) → order_code (pos (c + a)) (pos (c + b)) ≡ order_code (pos a) (pos b)
order_shifted c a b = elim (cases_lt a b) [
  | inl lt ↦ order_low (c + a) (c + b) (omega arith) ∙ sym (order_low a b lt)
  | inr ge ↦ elim (cases_lt b a) [
    | inl lt ↦ order_high (c + a) (c + b) (omega arith) ∙ sym (order_high a b lt)
    | inr le ↦ let same : a ≡ b = omega arith in rw same (order_same (c + b) ∙ sym (order_same b))
  ]
]

abbrev AreBytes : List ℕ → Type 0
AreBytes bytes = (k : ℕ) → slice_index bytes k < 256

number_small : (bytes : List ℕ) → AreBytes bytes → number_of bytes < 256 ^ length bytes
number_small [] small = omega arith
number_small (b ∷ bs) small =
    let first : b < 256 = small 0 in
    let rest = number_small bs (λ k. small (suc k)) in
    let most : suc b * 256 ^ length bs ≤ 256 * 256 ^ length bs = mul-le-mul_right (256 ^ length bs) (omega arith) in
    let more : suc b * 256 ^ length bs ≡ b * 256 ^ length bs + 256 ^ length bs = omega arith in
    let power : 256 ^ suc (length bs) ≡ 256 * 256 ^ length bs = omega arith in
    omega (arith, rest, most, more, power)

-- a higher first byte makes the number higher
leads : (x y p a b : ℕ) → x < y → a < p → x * p + a < y * p + b
leads x y p a b h small =
    let most : suc x * p ≤ y * p = mul-le-mul_right p (omega arith) in
    let more : suc x * p ≡ x * p + p = omega arith in
    omega (arith, most, more, small)

-- the numbers of two lists compare as the first bytes that differ
pub first_differs : (xs ys : List ℕ) (k : ℕ) → length xs ≡ length ys → AreBytes xs → AreBytes ys → k < length xs
    → ((j : ℕ) → j < k → slice_index xs j ≡ slice_index ys j) → slice_index xs k ≢ slice_index ys k
    → order_code (pos (slice_index xs k)) (pos (slice_index ys k)) ≡ order_code (pos (number_of xs)) (pos (number_of ys))
first_differs [] ys k long small less h same differ = absurd (omega (arith, h))
first_differs (x ∷ xs) [] k long small less h same differ = absurd (omega (arith, long))
first_differs (x ∷ xs) (y ∷ ys) zero long small less h same differ =
    let size : length xs ≡ length ys = omega (arith, long) in
    let low = number_small xs (λ k. small (suc k)) in
    let high = number_small ys (λ k. less (suc k)) in
    elim (cases_lt x y) [
      | inl lt ↦ order_low x y lt ∙ sym (rw (← size) (order_low _ _ (leads x y (256 ^ length xs) (number_of xs) (number_of ys) lt low)))
      | inr ge ↦
          let lt : y < x = omega (arith, ge, differ) in
          order_high x y lt ∙ sym (rw size (order_high _ _ (leads y x (256 ^ length ys) (number_of ys) (number_of xs) lt high)))
    ]
first_differs (x ∷ xs) (y ∷ ys) (suc k) long small less h same differ =
    let size : length xs ≡ length ys = omega (arith, long) in
    let first : x ≡ y = same 0 (omega arith) in
    let rest = first_differs xs ys k size (λ j. small (suc j)) (λ j. less (suc j)) (omega (arith, h)) (λ j l. same (suc j) (omega (arith, l))) differ in
    rest ∙ sym (rw (first, size) (order_shifted (y * 256 ^ length ys) (number_of xs) (number_of ys)))

pub all_alike : (xs ys : List ℕ) → length xs ≡ length ys → ((j : ℕ) → j < length xs → slice_index xs j ≡ slice_index ys j) → 0 ≡ order_code (pos (number_of xs)) (pos (number_of ys))
all_alike xs ys long same = sym (rw (lists xs ys long same) (order_same (number_of ys)))
  where
    lists : (xs ys : List ℕ) → length xs ≡ length ys → ((j : ℕ) → j < length xs → slice_index xs j ≡ slice_index ys j) → xs ≡ ys
    lists [] [] long same = refl
    lists [] (y ∷ ys) long same = absurd (omega (arith, long))
    lists (x ∷ xs) [] long same = absurd (omega (arith, long))
    lists (x ∷ xs) (y ∷ ys) long same =
        let first : x ≡ y = same 0 (omega arith) in
        let rest = lists xs ys (omega (arith, long)) (λ j l. same (suc j) (omega (arith, l))) in
        rw (first, rest) refl

-- the number of some bytes of a list
part_at : (bytes : List ℕ) (at m k : ℕ) → k < m → slice_index (take m (drop at bytes)) k ≡ slice_index bytes (at + k)
part_at bytes at m k h = get_or-take m (drop at bytes) k 0 h ∙ get_or-drop at bytes k 0

part_from : (bytes : List ℕ) (at m i n : ℕ) → i + n ≤ m → big_from i n (take m (drop at bytes)) ≡ big_from (at + i) n bytes
part_from bytes at m i zero h = refl
part_from bytes at m i (suc n) h =
    let here = part_at bytes at m i (omega (arith, h)) in
    let next : at + suc i ≡ suc (at + i) = omega arith in
    let rest : big_from (suc i) n (take m (drop at bytes)) ≡ big_from (suc (at + i)) n bytes = rw next at (part_from bytes at m (suc i) n (omega (arith, h))) in
    rw (here, rest) refl

pub number_from : (bytes : List ℕ) (at : ℕ) → at + 8 ≤ length bytes → big_number 8 (slice_range bytes at (at + 8)) ≡ big_from at 8 bytes
number_from bytes at h =
    let width : (at + 8) - at ≡ 8 = omega arith in
    let first : at + 0 ≡ at = omega arith in
    rw width (rw first at (part_from bytes at 8 0 8 (omega arith)))

from_small : (xs : List ℕ) (i n : ℕ) → AreBytes xs → big_from i n xs < 256 ^ n
from_small xs i zero small = omega arith
from_small xs i (suc n) small =
    let first : slice_index xs i < 256 = small i in
    let rest = from_small xs (suc i) n small in
    let most : suc (slice_index xs i) * 256 ^ n ≤ 256 * 256 ^ n = mul-le-mul_right (256 ^ n) (omega arith) in
    let more : suc (slice_index xs i) * 256 ^ n ≡ slice_index xs i * 256 ^ n + 256 ^ n = omega arith in
    let power : 256 ^ suc n ≡ 256 * 256 ^ n = omega arith in
    omega (arith, rest, most, more, power)

-- one number is the number of the same bytes alone
pub same_bytes : (xs ys : List ℕ) (i n : ℕ) → AreBytes xs → AreBytes ys → big_from i n xs ≡ big_from i n ys
    → (j : ℕ) → i ≤ j → j < i + n → slice_index xs j ≡ slice_index ys j
same_bytes xs ys i zero small less e j low high = absurd (omega (arith, low, high))
same_bytes xs ys i (suc n) small less e j low high =
    let x = slice_index xs i in
    let y = slice_index ys i in
    let a = from_small xs (suc i) n small in
    let b = from_small ys (suc i) n less in
    let first : x ≡ y = elim (cases_lt x y) [
      | inl lt ↦ absurd (omega (arith, e, leads x y (256 ^ n) (big_from (suc i) n xs) (big_from (suc i) n ys) lt a))
      | inr ge ↦ elim (cases_lt y x) [
        | inl lt ↦ absurd (omega (arith, e, leads y x (256 ^ n) (big_from (suc i) n ys) (big_from (suc i) n xs) lt b))
        | inr le ↦ omega arith
      ]
    ] in
    let heads : x * 256 ^ n ≡ y * 256 ^ n = rw first refl in
    let rest : big_from (suc i) n xs ≡ big_from (suc i) n ys = omega (arith, e, heads) in
    elim (cases_eq j i) [
      | inl here ↦ rw here first
      | inr past ↦ same_bytes xs ys (suc i) n small less rest j (omega (arith, past, low)) (omega (arith, high))
    ]
