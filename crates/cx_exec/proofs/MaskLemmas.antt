-- The places that a mask chooses, one by one.
use Rattle.std.proofs.Common.{◌≡◌, ℕ, zero, suc, ◌+◌, ◌/◌, ◌^◌, ◌<◌, ◌≤◌, inl, inr, Bool, true, false, cond, List, [], ◌∷◌, ◌++◌, length, map, take, slice_set, refl, sym, ◌∙◌, ap, add-one, arith, if◌then◌else◌}
use Rattle.std.specs.List.{filter, range_with_len}
use Rattle.std.proofs.lemmas.Bool.{cases_lt}
use Rattle.std.proofs.lemmas.List.{length-append, map_push, take_more_set}
use Rattle.cx_exec.specs.Branches.{mask_bit}
use Rattle.cx_exec.specs.Masks.{mask_selects, byte_of, selected_bytes}

filter_more : (test : ℕ → Bool) (a n : ℕ) → filter test (range_with_len a (suc n)) ≡ filter test (range_with_len a n) ++ cond (test (a + n)) ((a + n) ∷ []) []
filter_more test a zero = let here : a + 0 ≡ a = omega arith in rw here refl
filter_more test a (suc n) =
    let place : a + 1 + n ≡ a + suc n = omega arith in
    let rest = rw place at (filter_more test (a + 1) n) in
    go (test a) _ _ _ rest
  where
    go : (b : Bool) (more prefix back : List ℕ) → more ≡ prefix ++ back → cond b (a ∷ more) more ≡ cond b (a ∷ prefix) prefix ++ back
    go true more prefix back e = ap (λ (x : List ℕ). a ∷ x) e
    go false more prefix back e = e

chosen_more : (mask n : ℕ) → selected_bytes mask (n + 1) ≡ selected_bytes mask n ++ cond (mask_selects mask n) (n ∷ []) []
unfolding selected_bytes
chosen_more mask n = let here : 0 + n ≡ n = omega arith in rw add-one (rw here at (filter_more (mask_selects mask) 0 n))

pub number_none : (mask : ℕ) → length (selected_bytes mask 0) ≡ 0
unfolding selected_bytes
number_none mask = refl

pub number_more : (mask n : ℕ) → length (selected_bytes mask (n + 1)) ≡ (if mask_selects mask n then length (selected_bytes mask n) + 1 else length (selected_bytes mask n))
number_more mask n = ap length (chosen_more mask n) ∙ length-append (selected_bytes mask n) (cond (mask_selects mask n) (n ∷ []) []) ∙ go (mask_selects mask n)
  where
    go : (b : Bool) → length (selected_bytes mask n) + length (cond b (n ∷ []) []) ≡ (if b then length (selected_bytes mask n) + 1 else length (selected_bytes mask n))
    go true = omega arith
    go false = omega arith

pub bytes_none : (mask word : ℕ) → map (byte_of word) (selected_bytes mask 0) ≡ []
unfolding selected_bytes
bytes_none mask word = refl

pub bytes_more : (mask word n : ℕ) → map (byte_of word) (selected_bytes mask (n + 1)) ≡ (if mask_selects mask n then map (byte_of word) (selected_bytes mask n) ++ byte_of word n ∷ [] else map (byte_of word) (selected_bytes mask n))
bytes_more mask word n = ap (map (byte_of word)) (chosen_more mask n) ∙ go (mask_selects mask n)
  where
    go : (b : Bool) → map (byte_of word) (selected_bytes mask n ++ cond b (n ∷ []) []) ≡ (if b then map (byte_of word) (selected_bytes mask n) ++ byte_of word n ∷ [] else map (byte_of word) (selected_bytes mask n))
    go true = map_push (byte_of word) (selected_bytes mask n) n
    go false = ap (map (byte_of word)) (end (selected_bytes mask n))
      where
        end : (xs : List ℕ) → xs ++ [] ≡ xs
        end [] = refl
        end (x ∷ xs) = ap (λ (l : List ℕ). x ∷ l) (end xs)

-- a place that is chosen is one of all
pub number_below : (mask k n : ℕ) → k < n → mask_selects mask k ≡ true → length (selected_bytes mask k) < length (selected_bytes mask n)
number_below mask k zero h e = absurd (omega (arith, h))
number_below mask k (suc n) h e =
    let more : length (selected_bytes mask (suc n)) ≡ (if mask_selects mask n then length (selected_bytes mask n) + 1 else length (selected_bytes mask n)) = rw add-one at (number_more mask n) in
    elim (cases_lt k n) [
      | inl lt ↦ let before = number_below mask k n lt e in rw more (at_least (mask_selects mask n) _ _ before)
      | inr ge ↦ let same : n ≡ k = omega (arith, h, ge) in rw (more, same, e) (omega arith)
    ]
  where
    at_least : (b : Bool) (x y : ℕ) → x < y → x < (if b then y + 1 else y)
    at_least true x y h = omega (arith, h)
    at_least false x y h = h

-- a buffer with the byte at a place that is chosen, and at one that isn't
pub byte_taken : (mask word k count byte : ℕ) (buffer : List ℕ) → mask_selects mask k ≡ true → count < length buffer → take count buffer ≡ map (byte_of word) (selected_bytes mask k)
    → byte ≡ byte_of word k → take (count + 1) (slice_set buffer count byte) ≡ map (byte_of word) (selected_bytes mask (k + 1))
byte_taken mask word k count byte buffer e h so_far made =
    let more = rw e at (bytes_more mask word k) in
    take_more_set buffer count byte h ∙ rw (so_far, made) (sym more)

pub byte_left : (mask word k count : ℕ) (buffer : List ℕ) → mask_selects mask k ≡ false → take count buffer ≡ map (byte_of word) (selected_bytes mask k)
    → take count buffer ≡ map (byte_of word) (selected_bytes mask (k + 1))
byte_left mask word k count buffer e so_far = let more = rw e at (bytes_more mask word k) in so_far ∙ sym more

-- a condition code's bit, found by a shift
pub shifted_bit : (cc : ℕ) → cc ≤ 3 → 8 / 2 ^ cc ≡ mask_bit cc
shifted_bit zero h = refl
shifted_bit (suc zero) h = refl
shifted_bit (suc (suc zero)) h = refl
shifted_bit (suc (suc (suc zero))) h = refl
shifted_bit (suc (suc (suc (suc n)))) h = absurd (omega (arith, h))
