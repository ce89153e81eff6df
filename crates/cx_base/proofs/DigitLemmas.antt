-- Digits, from the last to the first.
use Rattle.std.proofs.Common.{◌≡◌, ℕ, zero, suc, ◌+◌, ◌-◌, ◌<◌, ◌≤◌, ◌/◌, ◌++◌, ◌∷◌, [], List, length, drop, ap, sym, ◌∙◌, arith}
use Rattle.std.specs.Prelude.{slice_set}
use Rattle.std.proofs.lemmas.List.{append_assoc, append-nil, drop-set}
use Rattle.std.proofs.Math.Seq.{drop-length}
use Rattle.cx_base.specs.Digits.{digits, last_digit}

-- one place more
more : (base places n : ℕ) (rest : List ℕ) → digits base (suc places) n ++ rest ≡ digits base places (n / base) ++ last_digit base n ∷ rest
unfolding digits
more base places n rest = append_assoc (digits base places (n / base)) (last_digit base n ∷ []) rest

put_digit : (base places n digit : ℕ) (text : List ℕ) → digit ≡ last_digit base n → places < length text
    → digits base places (n / base) ++ drop places (slice_set text places digit) ≡ digits base (suc places) n ++ drop (places + 1) text
put_digit base places n digit text e within =
    ap (λ l. digits base places (n / base) ++ l) (drop-set text places digit within ∙ ap (λ d. d ∷ drop (places + 1) text) e) ∙ sym (more base places n (drop (places + 1) text))

pub one_more : (base at n digit : ℕ) (text whole : List ℕ) → digit ≡ last_digit base n → 0 < at → at ≤ length text
    → digits base at n ++ drop at text ≡ whole → digits base (at - 1) (n / base) ++ drop (at - 1) (slice_set text (at - 1) digit) ≡ whole
one_more base zero n digit text whole e some within h = absurd (omega (arith, some))
one_more base (suc at) n digit text whole e some within h =
    let one : at + 1 ≡ suc at = omega arith in
    let less : suc at - 1 ≡ at = omega arith in
    rw less (put_digit base at n digit text e within ∙ ap (λ k. digits base (suc at) n ++ drop k text) one ∙ h)

-- no place is left
pub no_place : (base n : ℕ) (text whole : List ℕ) → digits base 0 n ++ drop 0 text ≡ whole → text ≡ whole
unfolding digits
no_place base n text whole h = h

-- all places are left
pub all_places : (base n : ℕ) (text : List ℕ) → digits base (length text) n ++ drop (length text) text ≡ digits base (length text) n
all_places base n text = ap (λ l. digits base (length text) n ++ l) (drop-length text) ∙ append-nil (digits base (length text) n)
