-- Words that lie in a text, and words that share no byte.
use Rattle.std.proofs.Common.{◌≡◌, ℕ, zero, suc, ◌+◌, ◌<◌, ◌≤◌, ◌⊎◌, max, Bool, true, false, ◌&&◌, ◌||◌, IsTrue, List, [], ◌∷◌, length, refl, sym, ◌∙◌, ap, inl, inr, arith}
use Rattle.std.specs.Prelude.{nat_le, nat_lt, slice_index}
use Rattle.std.specs.List.{list_all}
use Rattle.std.proofs.lemmas.Bool.{and_from, cases_Bool, le-leb, leb-true, leb-false, le-ltb, lt-leb, lt-ltb, ltb-true, false≢true}
use Rattle.cx_load.specs.Fault.{are_inside, are_apart, is_apart, all_apart}
use Rattle.cx_load.specs.Laws.Words.{is_of_word, are_in_order, SharesNoByte}

pub both : (a b : Bool) → (a && b) ≡ true → (a ≡ true) × (b ≡ true)
both true b e = (refl, e)
both false b e = absurd (cc)

pub neither : (a b : Bool) → (a || b) ≡ false → (a ≡ false) × (b ≡ false)
neither true b e = absurd (cc)
neither false b e = (refl, e)

pub and_false : (a : Bool) → (a && false) ≡ false
and_false true = refl
and_false false = refl

pub true_after : (a : Bool) → (a || true) ≡ true
true_after true = refl
true_after false = refl

pub either : (a b : Bool) → (a || b) ≡ true → (a ≡ true) ⊎ (b ≡ true)
either true b e = inl refl
either false b e = inr e

-- each relocated word lies in the text
pub inside_at : (size : ℕ) (relocs : List ℕ) (i : ℕ) → IsTrue (are_inside size relocs) → i < length relocs → slice_index relocs i + 4 ≤ size
unfolding are_inside
inside_at size [] i all h = absurd (omega arith)
inside_at size (r ∷ relocs) zero all h = leb-true (r + 4) size (both (nat_le (r + 4) size) (list_all (λ q. nat_le (q + 4) size) relocs) all).0
inside_at size (r ∷ relocs) (suc i) all h =
    inside_at size relocs i (both (nat_le (r + 4) size) (list_all (λ q. nat_le (q + 4) size) relocs) all).1 (omega arith)

pub inside_parts : (size r : ℕ) (relocs : List ℕ) → IsTrue (are_inside size (r ∷ relocs)) → (r + 4 ≤ size) × IsTrue (are_inside size relocs)
unfolding are_inside
inside_parts size r relocs all =
    let parts = both (nat_le (r + 4) size) (list_all (λ q. nat_le (q + 4) size) relocs) all in
    (leb-true (r + 4) size parts.0, parts.1)

pub inside_from : (size : ℕ) (relocs : List ℕ) → ((i : ℕ) → i < length relocs → slice_index relocs i + 4 ≤ size) → IsTrue (are_inside size relocs)
unfolding are_inside
inside_from size [] each = refl
inside_from size (r ∷ relocs) each =
    and_from _ _ (le-leb (r + 4) size (each 0 (omega arith))) (inside_from size relocs (λ i h. each (suc i) (omega arith)))

-- a byte of a word that shares none with a second word is none of that word's
pub not_of_other : (r q k : ℕ) → are_apart r q ≡ true → r ≤ k → k < r + 4 → is_of_word k q ≡ false
unfolding are_apart
not_of_other r q k apart low high = elim (either (nat_le (r + 4) q) (nat_le (q + 4) r) apart) [
  | inl before ↦
      let le = leb-true (r + 4) q before in
      ap (λ b. b && nat_lt k (q + 4)) (lt-leb q k (omega (arith, le)))
  | inr after ↦
      let le = leb-true (q + 4) r after in
      ap (λ b. nat_le q k && b) (le-ltb k (q + 4) (omega (arith, le))) ∙ and_false (nat_le q k)
]

pub apart_at : (r : ℕ) (relocs : List ℕ) (i : ℕ) → is_apart r relocs ≡ true → i < length relocs → are_apart r (slice_index relocs i) ≡ true
unfolding is_apart
apart_at r [] i apart h = absurd (omega arith)
apart_at r (q ∷ relocs) zero apart h = (both (are_apart r q) (list_all (λ p. are_apart r p) relocs) apart).0
apart_at r (q ∷ relocs) (suc i) apart h = apart_at r relocs i (both (are_apart r q) (list_all (λ p. are_apart r p) relocs) apart).1 (omega arith)

pub apart_swap : (r q : ℕ) → are_apart r q ≡ true → are_apart q r ≡ true
unfolding are_apart
apart_swap r q apart = elim (either (nat_le (r + 4) q) (nat_le (q + 4) r) apart) [
  | inl before ↦ ap (λ b. nat_le (q + 4) r || b) before ∙ true_after (nat_le (q + 4) r)
  | inr after ↦ ap (λ b. b || nat_le (r + 4) q) after
]

-- no two of them share a byte
pub apart_from : (r : ℕ) (relocs : List ℕ) → ((j : ℕ) → j < length relocs → are_apart r (slice_index relocs j) ≡ true) → is_apart r relocs ≡ true
unfolding is_apart
apart_from r [] each = refl
apart_from r (q ∷ relocs) each = and_from _ _ (each 0 (omega arith)) (apart_from r relocs (λ j h. each (suc j) (omega arith)))

pub all_apart_from : (relocs : List ℕ) → ((i j : ℕ) → i < j → j < length relocs → are_apart (slice_index relocs i) (slice_index relocs j) ≡ true) → IsTrue (all_apart relocs)
all_apart_from [] each = refl
all_apart_from (r ∷ relocs) each =
    and_from _ _ (apart_from r relocs (λ j h. each 0 (suc j) (omega arith) (omega arith)))
    (all_apart_from relocs (λ i j before h. each (suc i) (suc j) (omega arith) (omega arith)))

pub pair_apart : (relocs : List ℕ) (i j : ℕ) → IsTrue (all_apart relocs) → i < j → j < length relocs → are_apart (slice_index relocs i) (slice_index relocs j) ≡ true
pair_apart [] i j apart before h = absurd (omega arith)
pair_apart (r ∷ relocs) i zero apart before h = absurd (omega arith)
pair_apart (r ∷ relocs) zero (suc j) apart before h = apart_at r relocs j (both (is_apart r relocs) (all_apart relocs) apart).0 (omega arith)
pair_apart (r ∷ relocs) (suc i) (suc j) apart before h = pair_apart relocs i j (both (is_apart r relocs) (all_apart relocs) apart).1 (omega arith) (omega arith)

-- two words are apart where no byte is of both
pub share_none : (r q : ℕ) → are_apart r q ≡ true → SharesNoByte r q
share_none r q apart = λ k first second.
    let parts = both (nat_le r k) (nat_lt k (r + 4)) first in
    let out = not_of_other r q k apart (leb-true r k parts.0) (ltb-true k (r + 4) parts.1) in
    false≢true (sym out ∙ second)

pub apart_of_none : (r q : ℕ) → SharesNoByte r q → are_apart r q ≡ true
unfolding are_apart
apart_of_none r q none = elim (cases_Bool (nat_le (r + 4) q)) [
  | inl before ↦ ap (λ b. b || nat_le (q + 4) r) before
  | inr over ↦ elim (cases_Bool (nat_le (q + 4) r)) [
    | inl after ↦ ap (λ b. nat_le (r + 4) q || b) after ∙ true_after (nat_le (r + 4) q)
    | inr under ↦
        let low = leb-false (r + 4) q over in
        let high = leb-false (q + 4) r under in
        let first : is_of_word (max r q) r ≡ true = and_from _ _ (le-leb r (max r q) (omega arith)) (lt-ltb (max r q) (r + 4) (omega (arith, low))) in
        let second : is_of_word (max r q) q ≡ true = and_from _ _ (le-leb q (max r q) (omega arith)) (lt-ltb (max r q) (q + 4) (omega (arith, high))) in
        absurd (none (max r q) first second)
  ]
]

-- words in order share no byte
after_apart : (r from : ℕ) (relocs : List ℕ) → r + 4 ≤ from → are_in_order from relocs ≡ true → is_apart r relocs ≡ true
unfolding is_apart are_apart
after_apart r from [] h ordered = refl
after_apart r from (q ∷ relocs) h ordered =
    let parts = both (nat_le from q) (are_in_order (q + 4) relocs) ordered in
    let low = leb-true from q parts.0 in
    and_from _ _ (ap (λ b. b || nat_le (q + 4) r) (le-leb (r + 4) q (omega arith))) (after_apart r (q + 4) relocs (omega arith) parts.1)

pub apart_of_order : (from : ℕ) (relocs : List ℕ) → are_in_order from relocs ≡ true → all_apart relocs ≡ true
apart_of_order from [] ordered = refl
apart_of_order from (r ∷ relocs) ordered =
    let parts = both (nat_le from r) (are_in_order (r + 4) relocs) ordered in
    and_from _ _ (after_apart r (r + 4) relocs (omega arith) parts.1) (apart_of_order (r + 4) relocs parts.1)
