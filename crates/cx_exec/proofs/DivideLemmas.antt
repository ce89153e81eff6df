-- There is one quotient and one remainder, those of a division that rounds toward zero.
use Rattle.std.proofs.Common.{◌≡◌, ℕ, zero, suc, ◌+◌, ◌*◌, ◌<◌, ◌%◌, true, false, ◌⊎◌, inl, inr, refl, sym, ◌∙◌, ap, subst, arith, ℤ, pos, negsuc, ◌+ℤ◌, ◌-ℤ◌, ◌*ℤ◌, neg_ℤ, int_lt, int_div, int_rem, unsigned_abs, FitsSigned, slice_set, Ok}
use Rattle.std.proofs.lemmas.Bool.{cases_Bool}
use Rattle.std.proofs.lemmas.Int.{ints, quot-rem, unsigned_abs-mul, rem_below}
use borrow.Author.Differences.{false_is_lt}
use lib.IntN.{suc_ℤ-*ℤ, pred_ℤ-*ℤ, zero-*ℤ, *ℤ_comm}
use Rattle.std.specs.Int.{w32}
use Rattle.cx_exec.specs.Division.{Divides, IsDivision, DividesRegisters}
use Rattle.cx_exec.specs.declared.machine.Updated.{Updated}
use Rattle.cx_exec.specs.Machine.{Machine}
use Rattle.cx_exec.specs.Numbers.{signed_word, signed_double, word_of}
use Rattle.cx_exec.specs.Results.{pair}

-- a factor once more, and once less
difference_up : (x y z q p : ℤ) → x ≡ y -ℤ z → x +ℤ (q -ℤ p) ≡ (y +ℤ q) -ℤ (z +ℤ p)
difference_up x y z q p e = omega (arith, ints)

difference_down : (x y z q p : ℤ) → x ≡ y -ℤ z → x -ℤ (q -ℤ p) ≡ (y -ℤ q) -ℤ (z -ℤ p)
difference_down x y z q p e = omega (arith, ints)

both : (a b c d : ℤ) → a ≡ c → b ≡ d → a -ℤ b ≡ c -ℤ d
both a b c d e f = ap (λ (x : ℤ). x -ℤ b) e ∙ ap (λ (y : ℤ). c -ℤ y) f

-- a product of a difference
zero_times : (q p : ℤ) → pos zero *ℤ (q -ℤ p) ≡ (pos zero *ℤ q) -ℤ (pos zero *ℤ p)
zero_times q p = zero-*ℤ (q -ℤ p) ∙ sym (both _ _ _ _ (zero-*ℤ q) (zero-*ℤ p))

times_difference : (d q p : ℤ) → d *ℤ (q -ℤ p) ≡ (d *ℤ q) -ℤ (d *ℤ p)
times_difference (pos zero) q p = zero_times q p
times_difference (pos (suc n)) q p =
    suc_ℤ-*ℤ (pos n) (q -ℤ p) ∙ difference_up _ _ _ q p (times_difference (pos n) q p)
    ∙ sym (both _ _ _ _ (suc_ℤ-*ℤ (pos n) q) (suc_ℤ-*ℤ (pos n) p))
times_difference (negsuc zero) q p =
    pred_ℤ-*ℤ (pos zero) (q -ℤ p) ∙ difference_down _ _ _ q p (zero_times q p)
    ∙ sym (both _ _ _ _ (pred_ℤ-*ℤ (pos zero) q) (pred_ℤ-*ℤ (pos zero) p))
times_difference (negsuc (suc n)) q p =
    pred_ℤ-*ℤ (negsuc n) (q -ℤ p) ∙ difference_down _ _ _ q p (times_difference (negsuc n) q p)
    ∙ sym (both _ _ _ _ (pred_ℤ-*ℤ (negsuc n) q) (pred_ℤ-*ℤ (negsuc n) p))

-- two remainders of one dividend are less than the divisor apart
abbrev HasSign : ℤ → ℤ → Type 0
HasSign n r = (r ≡ pos 0) ⊎ (int_lt r (pos 0) ≡ int_lt n (pos 0))

apart_negative : (r s : ℤ) (size : ℕ) → unsigned_abs r < size → unsigned_abs s < size → int_lt r (pos 0) ≡ true → int_lt s (pos 0) ≡ true → unsigned_abs (s -ℤ r) < size
apart_negative r s size h k e f = omega (arith, ints)

apart_positive : (r s : ℤ) (size : ℕ) → unsigned_abs r < size → unsigned_abs s < size → int_lt r (pos 0) ≡ false → int_lt s (pos 0) ≡ false → unsigned_abs (s -ℤ r) < size
apart_positive r s size h k e f = omega (arith, ints)

apart_zero : (r s : ℤ) (size : ℕ) → unsigned_abs r < size → unsigned_abs s < size → (r ≡ pos 0) ⊎ (s ≡ pos 0) → unsigned_abs (s -ℤ r) < size
apart_zero r s size h k (inl e) = omega (arith, ints)
apart_zero r s size h k (inr e) = omega (arith, ints)

apart : (n r s : ℤ) (size : ℕ) → unsigned_abs r < size → unsigned_abs s < size → HasSign n r → HasSign n s → unsigned_abs (s -ℤ r) < size
apart n r s size h k (inl e) f = apart_zero r s size h k (inl e)
apart n r s size h k (inr e) (inl f) = apart_zero r s size h k (inr f)
apart n r s size h k (inr e) (inr f) = elim (cases_Bool (int_lt n (pos 0))) [
  | inl t ↦ apart_negative r s size h k (e ∙ t) (f ∙ t)
  | inr t ↦ apart_positive r s size h k (e ∙ t) (f ∙ t)
]

-- a multiple that is less than the number is none
no_multiple : (a k : ℕ) → a * k < a → k ≡ 0
no_multiple a zero h = refl
no_multiple a (suc k) h = absurd (omega (arith, h))

moved : (n x y r s : ℤ) → n ≡ x +ℤ r → n ≡ y +ℤ s → x -ℤ y ≡ s -ℤ r
moved n x y r s e f = omega (arith, ints)

none_apart : (q p : ℤ) → unsigned_abs (q -ℤ p) ≡ 0 → q ≡ p
none_apart q p e = omega (arith, ints)

rest_same : (n x y r s : ℤ) → x ≡ y → n ≡ x +ℤ r → n ≡ y +ℤ s → r ≡ s
rest_same n x y r s same e f = omega (arith, ints)

-- one quotient and one remainder
pub divides_once : (n d q r p s : ℤ) → Divides n d q r → Divides n d p s → (q ≡ p) × (r ≡ s)
divides_once n d q r p s h k =
    let gap : d *ℤ (q -ℤ p) ≡ s -ℤ r = times_difference d q p ∙ moved n _ _ r s h.equation k.equation in
    let size : unsigned_abs d * unsigned_abs (q -ℤ p) ≡ unsigned_abs (s -ℤ r) = sym (unsigned_abs-mul d (q -ℤ p)) ∙ ap unsigned_abs gap in
    let near : unsigned_abs (s -ℤ r) < unsigned_abs d = apart n r s (unsigned_abs d) h.smaller k.smaller h.sign k.sign in
    let below : unsigned_abs d * unsigned_abs (q -ℤ p) < unsigned_abs d = rw size near in
    let same : q ≡ p = none_apart q p (no_multiple (unsigned_abs d) _ below) in
    (same, rest_same n _ _ r s (ap (λ (x : ℤ). d *ℤ x) same) h.equation k.equation)

pub division_once : (n d q r p s : ℤ) → IsDivision n d q r → IsDivision n d p s → (q ≡ p) × (r ≡ s)
division_once n d q r p s h k = divides_once n d q r p s h.divides k.divides

-- the division that rounds toward zero gives them
complement_sign : (a x : ℕ) → HasSign (negsuc a) (neg_ℤ (pos x))
complement_sign a zero = inl refl
complement_sign a (suc x) = inr refl

sign_kept : (n d : ℤ) → HasSign n (int_rem n d)
sign_kept (pos a) d = inr (sym (false_is_lt (int_rem (pos a) d) (pos 0) (omega arith)) ∙ false_is_lt (pos a) (pos 0) (omega arith))
sign_kept (negsuc a) d = complement_sign a (suc a % unsigned_abs d)

pub divides_truncated : (n d : ℤ) → 0 < unsigned_abs d → Divides n d (int_div n d) (int_rem n d)
divides_truncated n d h = record {
  equation = sym (quot-rem n d) ∙ ap (λ (x : ℤ). x +ℤ int_rem n d) (*ℤ_comm (int_div n d) d);
  smaller = rem_below n d h;
  sign = sign_kept n d;
}

positive : (n d q r : ℤ) → Divides n d q r → 0 < unsigned_abs d
positive n d q r h = let small = h.smaller in omega (arith, small)

-- a quotient is that of the division that rounds toward zero
pub quotient_is : (n d q r : ℤ) → Divides n d q r → q ≡ int_div n d
quotient_is n d q r h = (divides_once n d q r _ _ h (divides_truncated n d (positive n d q r h))).0

-- where there is a quotient, the division that rounds toward zero gives it
pub quotient_fits : (n d q r : ℤ) → IsDivision n d q r → FitsSigned w32 (int_div n d)
quotient_fits n d q r h = subst (λ (x : ℤ). FitsSigned w32 x) (quotient_is n d q r h.divides) h.fits

abbrev written : Machine → ℕ → Updated → ℕ → ℕ → Machine
written m r updated high low = record m { regs = slice_set (slice_set m.regs r high) (r + 1) low; next = updated.address }

-- a pair with a remainder and a quotient is a pair divided
pub divided_written : (r divisor high low : ℕ) (updated : Updated) (m : Machine) (n d q rem : ℤ) → n ≡ signed_double (pair m.regs r) → d ≡ signed_word divisor
    → IsDivision n d q rem → high ≡ word_of rem → low ≡ word_of q
    → DividesRegisters r divisor updated m (Ok tt) (record m { regs = slice_set (slice_set m.regs r high) (r + 1) low; next = updated.address })
unfolding DividesRegisters
divided_written r divisor high low updated m n d q rem dividend by found first second = (
  q,
  rem,
  subst (λ (x : ℤ). IsDivision x (signed_word divisor) q rem) dividend (subst (λ (x : ℤ). IsDivision n x q rem) by found),
  ap (λ (x : ℕ). written m r updated x low) first ∙ ap (λ (x : ℕ). written m r updated (word_of rem) x) second,
)
