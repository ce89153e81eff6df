-- The laws of decimal numbers and of MVC.
use Rattle.std.proofs.Common.{◌≡◌, ◌≢◌, ℕ, zero, suc, ◌+◌, ◌-◌, ◌*◌, ◌/◌, ◌%◌, ◌^◌, ◌<◌, ◌≤◌, true, Some, List, [], ◌∷◌, is_some, None, Option, length, refl, sym, ap, arith, lit<, lit≤, ℤ, pos, negsuc, neg_ℤ, unsigned_abs}
use Rattle.std.proofs.lemmas.Bool.{le-ltb}
use Rattle.std.proofs.Math.Nat.{div-div-eq-div-mul}
use Rattle.std.proofs.lemmas.Nat.{pow-add}
use Rattle.cx_storage.specs.Storage.{span, after_write}
use Rattle.cx_storage.specs.Address.{address_after, distance}
use Rattle.cx_storage.specs.Facts.Spans.{span_length}
use Rattle.cx_storage.specs.Facts.Writes.{span_after_write}
use Rattle.cx_exec.specs.Sequence.{stored_by}
use Rattle.cx_exec.specs.Strings.{moved_byte}
use Rattle.cx_exec.specs.Laws.Strings.{OutsideIsMoved}
use Rattle.cx_exec_laws.specs.Laws.Strings.{ApartIsCopied}
use Rattle.cx_exec.specs.Decimal.{half, IsDecimal, first_digits, decimal_number, IsReadAs, digit, digit_pair, decimal_bytes}

-- a number's digits with a sign
abbrev written_with : ℕ → ℕ → List ℕ
written_with n sign =
    digit_pair n 13 ∷ digit_pair n 11 ∷ digit_pair n 9 ∷ digit_pair n 7 ∷ digit_pair n 5 ∷ digit_pair n 3 ∷ digit_pair n 1
    ∷ (16 * digit n 0 + sign) ∷ []

left_of : (x y : ℕ) → y < 16 → (16 * x + y) / 16 ≡ x
left_of x y h = omega arith

right_of : (x y : ℕ) → y < 16 → (16 * x + y) % 16 ≡ y
right_of x y h = omega arith

digit_small : (n j : ℕ) → digit n j < 10
digit_small n j = omega arith

half_is : (n sign i : ℕ) → sign < 16 → i < 15 → half (written_with n sign) i ≡ digit n (14 - i)
half_is n sign zero s h = left_of (digit n 14) (digit n 13) (omega (arith, digit_small n 13))
half_is n sign (suc zero) s h = right_of (digit n 14) (digit n 13) (omega (arith, digit_small n 13))
half_is n sign (suc (suc zero)) s h = left_of (digit n 12) (digit n 11) (omega (arith, digit_small n 11))
half_is n sign (suc (suc (suc zero))) s h = right_of (digit n 12) (digit n 11) (omega (arith, digit_small n 11))
half_is n sign (suc (suc (suc (suc zero)))) s h = left_of (digit n 10) (digit n 9) (omega (arith, digit_small n 9))
half_is n sign (suc (suc (suc (suc (suc zero))))) s h = right_of (digit n 10) (digit n 9) (omega (arith, digit_small n 9))
half_is n sign (suc (suc (suc (suc (suc (suc zero)))))) s h = left_of (digit n 8) (digit n 7) (omega (arith, digit_small n 7))
half_is n sign (suc (suc (suc (suc (suc (suc (suc zero))))))) s h = right_of (digit n 8) (digit n 7) (omega (arith, digit_small n 7))
half_is n sign (suc (suc (suc (suc (suc (suc (suc (suc zero)))))))) s h = left_of (digit n 6) (digit n 5) (omega (arith, digit_small n 5))
half_is n sign (suc (suc (suc (suc (suc (suc (suc (suc (suc zero))))))))) s h = right_of (digit n 6) (digit n 5) (omega (arith, digit_small n 5))
half_is n sign (suc (suc (suc (suc (suc (suc (suc (suc (suc (suc zero)))))))))) s h = left_of (digit n 4) (digit n 3) (omega (arith, digit_small n 3))
half_is n sign (suc (suc (suc (suc (suc (suc (suc (suc (suc (suc (suc zero))))))))))) s h = right_of (digit n 4) (digit n 3) (omega (arith, digit_small n 3))
half_is n sign (suc (suc (suc (suc (suc (suc (suc (suc (suc (suc (suc (suc zero)))))))))))) s h = left_of (digit n 2) (digit n 1) (omega (arith, digit_small n 1))
half_is n sign (suc (suc (suc (suc (suc (suc (suc (suc (suc (suc (suc (suc (suc zero))))))))))))) s h = right_of (digit n 2) (digit n 1) (omega (arith, digit_small n 1))
half_is n sign (suc (suc (suc (suc (suc (suc (suc (suc (suc (suc (suc (suc (suc (suc zero)))))))))))))) s h = left_of (digit n 0) sign s
half_is n sign (suc (suc (suc (suc (suc (suc (suc (suc (suc (suc (suc (suc (suc (suc (suc k))))))))))))))) s h = absurd (omega (arith, h))

digits_are : (n sign i : ℕ) → sign < 16 → n < 10 ^ 15 → i ≤ 15 → first_digits (written_with n sign) i ≡ n / 10 ^ (15 - i)
unfolding first_digits
digits_are n sign zero s small h = omega arith
digits_are n sign (suc i) s small h =
    let before : first_digits (written_with n sign) i ≡ n / 10 ^ (15 - i) = digits_are n sign i s small (omega (arith, h)) in
    let here : half (written_with n sign) i ≡ n / 10 ^ (14 - i) % 10 = half_is n sign i s (omega (arith, h)) in
    let power : 15 - i ≡ (14 - i) + 1 = omega (arith, h) in
    let place : 15 - suc i ≡ 14 - i = omega (arith, h) in
    let more : 10 ^ (15 - i) ≡ 10 ^ (14 - i) * 10 = rw power (pow-add 10 (14 - i) 1) in
    let tenth : n / 10 ^ (15 - i) ≡ n / 10 ^ (14 - i) / 10 = rw more (sym (div-div-eq-div-mul n (10 ^ (14 - i)) 10)) in
    rw (before, here, place, tenth) (omega arith)

-- digits with a sign are valid, and are read as their number
valid : (n sign : ℕ) → 10 ≤ sign → sign < 16 → IsDecimal (written_with n sign)
unfolding IsDecimal
valid n sign high low = (
  λ i h. let here = half_is n sign i low h in rw here (digit_small n (14 - i)),
  rw (right_of (digit n 0) sign low) high,
)

read_as_plus : (n : ℕ) → n < 10 ^ 15 → pos n ≡ decimal_number (written_with n 0xC)
read_as_plus n small = rw (digits_are n 0xC 15 (lit< tt) small (lit≤ tt), right_of (digit n 0) 0xC (lit< tt)) (ap pos (omega arith))

read_as_minus : (n : ℕ) → n < 10 ^ 15 → neg_ℤ (pos n) ≡ decimal_number (written_with n 0xD)
read_as_minus n small = rw (digits_are n 0xD 15 (lit< tt) small (lit≤ tt), right_of (digit n 0) 0xD (lit< tt)) (ap (λ (k : ℕ). neg_ℤ (pos k)) (omega arith))

pub decimal_reads_back : (z : ℤ) → unsigned_abs z < 10 ^ 15 → IsReadAs (decimal_bytes z) (Some z)
unfolding IsReadAs decimal_bytes
decimal_reads_back (pos n) small = let plus = le-ltb n 0 (omega arith) in rw plus (valid n 0xC (lit≤ tt) (lit< tt), read_as_plus n small)
decimal_reads_back (negsuc n) small = (valid (suc n) 0xD (lit≤ tt) (lit< tt), read_as_minus (suc n) small)

-- MVC of a second operand that has no byte of the first: no byte of it is the first one's
outside : (a1 a2 n : ℕ) → ((k : ℕ) → k < n → n ≤ distance a1 (address_after a2 k)) → a2 < 2 ^ 24 → (j : ℕ) → 0 < j → j < n → a1 ≢ address_after a2 j
outside a1 a2 n apart low j some h same =
    let far : n ≤ distance a1 a1 = rw (← same) at (apart j h) in
    let none : distance a1 a1 ≡ 0 = omega arith in
    absurd (omega (arith, far, none, h))

pub apart_is_copied : OutsideIsMoved → ApartIsCopied
apart_is_copied stays s a1 a2 n low1 low2 fits first second apart = go (span s a2 n) refl second
  where
    go : (o : Option (List ℕ)) → span s a2 n ≡ o → is_some o ≡ true → span (after_write s a1 (stored_by (moved_byte s a1 a2) n)) a1 n ≡ o
    go None e h = cc
    go (Some bytes) e h =
        let long = span_length s a2 n bytes e in
        let there : is_some (span s a1 (length bytes)) ≡ true = rw long first in
        let after : span (after_write s a1 bytes) a1 n ≡ Some bytes = rw long at (span_after_write s a1 bytes low1 (omega (arith, long)) there) in
        let copied : stored_by (moved_byte s a1 a2) n ≡ bytes = stays s a1 a2 n bytes low1 low2 fits (outside a1 a2 n apart low2) e in
        rw copied after
