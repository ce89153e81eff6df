-- Hexadecimal digits decoded into a buffer, and the number that its bytes are.
use Rattle.std.proofs.Common.{◌≡◌, ℕ, true, slice_index_or, ◌+◌, ◌*◌, ◌/◌, ◌%◌, ◌<◌, ◌≤◌, ◌^◌, false, List, [], ◌∷◌, length, Some, None, Result, Ok, Err, MatchResult, is_ok, refl, sym, ◌∙◌, add-one, lit<, arith, inl, inr}
use Rattle.std.specs.Prelude.{◌==◌, if◌then◌else◌, Option, Bool}
use Rattle.std.specs.Option.{option_map}
use Rattle.std.specs.Result.{result_ok}
use Rattle.std.proofs.Math.Nat.{pow-le-pow_right}
use Rattle.std.proofs.lemmas.Bool.{cases_eq, eq-eqb, ne_eqb}
use Rattle.hex.specs.Hex.{decode_sized}
use Rattle.hex.specs.declared.error.FromHexError.{FromHexError}
use Rattle.cx_script_actions.specs.Alterations.{hex_number, number_in}
use Rattle.cx_script_actions.specs.Words.{hex_bytes}

-- decoding into a buffer of that length spells the digits
sized : (n : ℕ) (word : List ℕ) → option_map number_in (result_ok (decode_sized word n)) ≡ hex_number n word
unfolding hex_number hex_bytes
sized n word = elim (cases_eq (length word) (2 * n)) [
  | inl is ↦
      let half : length word / 2 ≡ n = omega (arith, is) in
      rw (eq-eqb (length word) (2 * n) is, eq-eqb (length word / 2) n half) refl
  | inr apart ↦ rw (ne_eqb (length word) (2 * n) apart) (elim (cases_eq (length word % 2) 1) [
    | inl odd ↦ rw (eq-eqb (length word % 2) 1 odd) refl
    | inr even ↦
        let other : length word / 2 == n ≡ false = ne_eqb (length word / 2) n (λ e. absurd (apart (omega (arith, e, even)))) in
        rw (ne_eqb (length word % 2) 1 even, other) refl
  ])
]

pub spelled : (n : ℕ) (word : List ℕ) (r : Result (Unit {0}) FromHexError) (new : List ℕ)
    → MatchResult (decode_sized word n) (λ bytes. (r ≡ Ok tt) × (new ≡ bytes)) (λ e. r ≡ Err e)
    → hex_number n word ≡ (if is_ok r then Some (number_in new) else None)
spelled n word r new h = sym (sized n word) ∙ go (decode_sized word n) h
  where
    go : (d : Result (List ℕ) FromHexError) → MatchResult d (λ bytes. (r ≡ Ok tt) × (new ≡ bytes)) (λ e. r ≡ Err e)
        → option_map number_in (result_ok d) ≡ (if is_ok r then Some (number_in new) else None)
    go (Ok bytes) h = rw (h.0, h.1) refl
    go (Err e) h = rw h refl

-- the byte that two digits spell
both : {a b : ℕ} → a ≡ b → Some a ≡ Some b
both same = rw same refl

pub one_byte : (bytes : List ℕ) (spelt : Option ℕ) (decoded : Bool) → length bytes ≡ 1 → decoded ≡ true → spelt ≡ (if decoded then Some (number_in bytes) else None)
    → Some (slice_index_or bytes 0 0) ≡ spelt
one_byte [] spelt decoded one h is = cc
one_byte (b ∷ []) spelt decoded one h is = let same : b ≡ number_in (b ∷ []) = omega arith in rw (is, h) (both same)
one_byte (b ∷ c ∷ more) spelt decoded one h is = cc

-- a power of 256 with an exponent below 4 is at most 2^24
pub power_bound : (i : ℕ) → i < 4 → 256 ^ i ≤ 16777216
power_bound i h = let few : i ≤ 3 = omega arith in let positive : 0 < 256 = lit< tt in pow-le-pow_right positive few

next_power : (i : ℕ) → 256 ^ (i + 1) ≡ 256 * 256 ^ i
next_power i = rw add-one (omega arith)

pub byte_fits : (number i byte : ℕ) → i < 4 → number < 256 ^ i → byte < 256 → (number * 256 + byte < 256 ^ (i + 1)) × (number * 256 + byte < 2 ^ 32) × (number * 256 < 2 ^ 32)
byte_fits number i byte h n b =
    let bound = power_bound i h in
    let next = next_power i in
    (omega (arith, next), omega (arith, bound), omega (arith, bound))
