-- What a division, a reading of digits and a table of bytes have for an outcome: one, or none.
use Rattle.std.proofs.Common.{◌≡◌, ℕ, ◌^◌, ◌<◌, ◌≤◌, List, ◌⊎◌, inl, inr, true, false, Option, Some, None, refl, subst, arith, ℤ, pos, ◌+ℤ◌, ◌-ℤ◌, ◌*ℤ◌, neg_ℤ, int_lt, unsigned_abs, FitsSigned}
use Rattle.std.specs.Prelude.{is_some}
use Rattle.std.specs.Int.{w32}
use Rattle.std.proofs.lemmas.Bool.{cases_Bool}
use Rattle.std.proofs.lemmas.Int.{ints}
use Rattle.cx_storage.specs.Storage.{Storage}
use Rattle.cx_exec.specs.Decimal.{AreDigits, IsDecimal, IsReadAs, decimal_number, half}
use Rattle.cx_exec.specs.Division.{IsDivision}
use Rattle.cx_exec.specs.Translation.{HasTable, table_byte}
use Rattle.cx_exec_laws.specs.Facts.Tests.{Least, all_below, both_or_not, le_or_not, least, lt_or_not, same_or_not, zero_or_not}

-- ---- division: the quotient is one of 2^32 numbers
equation_of : (n x : ℤ) → n ≡ x +ℤ (n -ℤ x)
equation_of n x = omega (arith, ints)

remainder_of : (n x r : ℤ) → n ≡ x +ℤ r → r ≡ n -ℤ x
remainder_of n x r e = omega (arith, ints)

is_zero : (r : ℤ) → unsigned_abs r ≡ 0 → r ≡ pos 0
is_zero r e = omega (arith, ints)

has_no_size : (r : ℤ) → r ≡ pos 0 → unsigned_abs r ≡ 0
has_no_size r e = omega (arith, ints)

fits_between : (x : ℤ) → int_lt x (neg_ℤ (pos (2 ^ 31))) ≡ false → int_lt x (pos (2 ^ 31)) ≡ true → FitsSigned w32 x
fits_between x low high = omega (arith, ints)

too_low : (x : ℤ) → int_lt x (neg_ℤ (pos (2 ^ 31))) ≡ true → FitsSigned w32 x → ⊥
too_low x low fits = omega (arith, ints)

too_high : (x : ℤ) → int_lt x (pos (2 ^ 31)) ≡ false → FitsSigned w32 x → ⊥
too_high x high fits = omega (arith, ints)

fits_or_not : (x : ℤ) → FitsSigned w32 x ⊎ (FitsSigned w32 x → ⊥)
fits_or_not x = elim (cases_Bool (int_lt x (neg_ℤ (pos (2 ^ 31))))) [
  | inl low ↦ inr (too_low x low)
  | inr not_low ↦ elim (cases_Bool (int_lt x (pos (2 ^ 31)))) [
    | inl below ↦ inl (fits_between x not_low below)
    | inr high ↦ inr (too_high x high)
  ]
]

abbrev HasSign : ℤ → ℤ → Type 0
HasSign n r = (r ≡ pos 0) ⊎ (int_lt r (pos 0) ≡ int_lt n (pos 0))

sign_or_not : (n r : ℤ) → HasSign n r ⊎ (HasSign n r → ⊥)
sign_or_not n r = go (zero_or_not (unsigned_abs r)) (same_or_not (int_lt r (pos 0)) (int_lt n (pos 0)))
  where
    go : (unsigned_abs r ≡ 0) ⊎ (unsigned_abs r ≡ 0 → ⊥) → (int_lt r (pos 0) ≡ int_lt n (pos 0)) ⊎ (int_lt r (pos 0) ≡ int_lt n (pos 0) → ⊥) → HasSign n r ⊎ (HasSign n r → ⊥)
    go (inl zero_size) same = inl (inl (is_zero r zero_size))
    go (inr some) (inl same) = inl (inr same)
    go (inr some) (inr differ) = inr (λ sign. elim sign [
      | inl e ↦ some (has_no_size r e)
      | inr e ↦ differ e
    ])

rest_of : ℤ → ℤ → ℤ → ℤ
rest_of n d q = n -ℤ (d *ℤ q)

quotient_or_not : (n d q : ℤ) → IsDivision n d q (rest_of n d q) ⊎ (IsDivision n d q (rest_of n d q) → ⊥)
unfolding rest_of
quotient_or_not n d q = go (lt_or_not (unsigned_abs (rest_of n d q)) (unsigned_abs d)) (sign_or_not n (rest_of n d q)) (fits_or_not q)
  where
    go : (unsigned_abs (rest_of n d q) < unsigned_abs d) ⊎ (unsigned_abs (rest_of n d q) < unsigned_abs d → ⊥) → HasSign n (rest_of n d q) ⊎ (HasSign n (rest_of n d q) → ⊥)
        → FitsSigned w32 q ⊎ (FitsSigned w32 q → ⊥) → IsDivision n d q (rest_of n d q) ⊎ (IsDivision n d q (rest_of n d q) → ⊥)
    go (inl small) (inl sign) (inl fits) = inl (record { divides = record { equation = equation_of n (d *ℤ q); smaller = small; sign = sign }; fits = fits })
    go (inr large) sign fits = inr (λ is. large is.divides.smaller)
    go (inl small) (inr none) fits = inr (λ is. none is.divides.sign)
    go (inl small) (inl sign) (inr far) = inr (λ is. far is.fits)

-- the k-th number that a word holds
kth : ℕ → ℤ
kth k = pos k -ℤ pos (2 ^ 31)

kth_of : (q : ℤ) → FitsSigned w32 q → (k : ℕ) × (k < 2 ^ 32) × (q ≡ kth k)
unfolding kth
kth_of q fits = (unsigned_abs (q +ℤ pos (2 ^ 31)), omega (arith, ints, fits), omega (arith, ints, fits))

pub division_or_not : (n d : ℤ) → ((q : ℤ) × (r : ℤ) × IsDivision n d q r) ⊎ ((q r : ℤ) → IsDivision n d q r → ⊥)
unfolding rest_of
division_or_not n d = go (least (λ k. IsDivision n d (kth k) (rest_of n d (kth k))) (λ k. quotient_or_not n d (kth k)) (2 ^ 32))
  where
    go : Least (λ k. IsDivision n d (kth k) (rest_of n d (kth k))) (2 ^ 32) → ((q : ℤ) × (r : ℤ) × IsDivision n d q r) ⊎ ((q r : ℤ) → IsDivision n d q r → ⊥)
    go (inl found) = inl (kth found.0, rest_of n d (kth found.0), found.1)
    go (inr none) =
        inr (λ q r is.
        let at = kth_of q is.fits in
        let rest : r ≡ rest_of n d q = remainder_of n (d *ℤ q) r is.divides.equation in
        none at.0 at.1 (subst (λ (x : ℤ). IsDivision n d x (rest_of n d x)) at.2 (subst (λ (x : ℤ). IsDivision n d q x) rest is)))

-- ---- digits, and a table
pub read_as_number : (bytes : List ℕ) → (number : Option ℤ) × IsReadAs bytes number
unfolding IsReadAs IsDecimal
read_as_number bytes = go (both_or_not (all_below (λ i. half bytes i < 10) (λ i. lt_or_not (half bytes i) 10) 15) (le_or_not 10 (half bytes 15)))
  where
    go : (AreDigits bytes × (10 ≤ half bytes 15)) ⊎ (AreDigits bytes × (10 ≤ half bytes 15) → ⊥) → (number : Option ℤ) × IsReadAs bytes number
    go (inl is) = (Some (decimal_number bytes), (is, refl))
    go (inr never) = (None, never)

pub table_or_not : (s : Storage) (n a1 a2 : ℕ) → HasTable s n a1 a2 ⊎ (HasTable s n a1 a2 → ⊥)
unfolding HasTable
table_or_not s n a1 a2 = all_below (λ k. is_some (table_byte s a1 a2 k) ≡ true) (λ k. same_or_not (is_some (table_byte s a1 a2 k)) true) n
