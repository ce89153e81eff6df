-- A number that went beyond the bound stays beyond it.
use Rattle.std.proofs.Common.{◌≡◌, ◌<◌, ◌≤◌, ℕ, List, sym, Bool, true, false, cond, leb, Some, None, arith}
use Rattle.std.specs.Int.Digits.{number_from_digits_after}
use Rattle.std.proofs.lemmas.Int.Digits.{number_after_ge}
use Rattle.std.proofs.lemmas.Bool.Decides.{nat_tests}
use Rattle.cx_asm_expressions.specs.Digits.{at_most, bound}

beyond : (n : ℕ) → bound < n → at_most bound n ≡ None
beyond n h = grind (arith, nat_tests)

pub past_bound : (base n : ℕ) (digits : List ℕ) (whole : ℕ) → 0 < base → bound < n → number_from_digits_after base n digits ≡ whole → None ≡ at_most bound whole
past_bound base n digits whole some past e =
    let more : n ≤ number_from_digits_after base n digits = number_after_ge base n digits some in
    let over : bound < whole = omega arith in
    sym (beyond whole over)

by_test : (b : Bool) (whole number : ℕ) → cond b (Some whole) None ≡ Some number → whole ≡ number
by_test true whole number e = cc
by_test false whole number e = cc

pub bounded_number : (whole number : ℕ) → at_most bound whole ≡ Some number → whole ≡ number
bounded_number whole number e = by_test (leb whole bound) whole number e

pub unbounded_number : (whole : ℕ) → at_most bound whole ≡ None → bound < whole
unbounded_number whole e = grind (arith, nat_tests)
