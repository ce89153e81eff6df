-- One character more of values with commas between.
use Rattle.std.proofs.Common.{◌≡◌, ◌+◌, ◌<◌, ◌≤◌, ℕ, Bool, true, false, cond, List, [], ◌∷◌, ◌++◌, length, get_or, drop, add-one, append_assoc, append-nil, sym, refl, ap, ◌∙◌, arith}
use Rattle.std.specs.Prelude.{◌==◌, sum_by}
use Rattle.std.specs.List.{slice_range, list_all, slice_split, onto_first}
use Rattle.std.proofs.lemmas.List.Sums.{sum_by-cons}
use Rattle.std.proofs.Math.Seq.{drop-cons}
use Rattle.cx_asm_expressions.specs.Fields.{fields, is_decimal}
use Rattle.cx_asm_expressions.proofs.TermLemmas.{range_more, range_none}

-- the values between commas; `part` is what there is of the first already
abbrev pub fields_from : List ℕ → List ℕ → List (List ℕ)
fields_from part [] = part ∷ []
fields_from part (c ∷ after) = cond (c == 44) (part ∷ fields_from [] after) (fields_from (part ++ c ∷ []) after)

abbrev onto : List ℕ → List (List ℕ) → List (List ℕ)
onto part [] = part ∷ []
onto part (one ∷ more) = (part ++ one) ∷ more

onto_one : (part : List ℕ) (c : ℕ) (parts : List (List ℕ)) → onto (part ++ c ∷ []) parts ≡ onto part (onto_first c parts)
onto_one part c [] = refl
onto_one part c (one ∷ more) = ap (λ x. x ∷ more) (append_assoc part (c ∷ []) one)

onto_none : (body : List ℕ) → onto [] (slice_split (λ c. c == 44) body) ≡ slice_split (λ c. c == 44) body
onto_none [] = refl
onto_none (c ∷ after) = go (c == 44) (slice_split (λ c. c == 44) after)
  where
    go : (b : Bool) (parts : List (List ℕ)) → onto [] (cond b ([] ∷ parts) (onto_first c parts)) ≡ cond b ([] ∷ parts) (onto_first c parts)
    go true parts = refl
    go false [] = refl
    go false (one ∷ more) = refl

from_split : (part body : List ℕ) → fields_from part body ≡ onto part (slice_split (λ c. c == 44) body)
from_split part [] = ap (λ x. x ∷ []) (sym (append-nil part))
from_split part (c ∷ after) =
    go (c == 44) (from_split [] after ∙ onto_none after) (from_split (part ++ c ∷ []) after ∙ onto_one part c (slice_split (λ c. c == 44) after))
  where
    go : (b : Bool) → fields_from [] after ≡ slice_split (λ c. c == 44) after
        → fields_from (part ++ c ∷ []) after ≡ onto part (onto_first c (slice_split (λ c. c == 44) after))
        → cond b (part ∷ fields_from [] after) (fields_from (part ++ c ∷ []) after)
        ≡ onto part (cond b ([] ∷ slice_split (λ c. c == 44) after) (onto_first c (slice_split (λ c. c == 44) after)))
    go true one other = ap (λ x. part ∷ x) one ∙ ap (λ x. x ∷ slice_split (λ c. c == 44) after) (sym (append-nil part))
    go false one other = other

pub split_at_commas : (body : List ℕ) → fields_from [] body ≡ fields body
split_at_commas body = from_split [] body ∙ onto_none body

pub all_split : (body : List ℕ) → list_all is_decimal (fields_from [] body) ≡ list_all is_decimal (fields body)
all_split body = ap (list_all is_decimal) (split_at_commas body)

pub sum_split : (f : List ℕ → ℕ) (body : List ℕ) → 0 + sum_by f (fields_from [] body) ≡ sum_by f (fields body)
sum_split f body = let e = ap (sum_by f) (split_at_commas body) in omega (arith, e)

-- a comma ends a value
pub fields_cut : (body : List ℕ) (start i : ℕ) → i < length body → (get_or body i 0 == 44) ≡ true
    → fields_from (slice_range body start i) (drop i body) ≡ slice_range body start i ∷ fields_from (slice_range body (i + 1) (i + 1)) (drop (i + 1) body)
fields_cut body start i within comma =
    let one = drop-cons body i 0 within in
    rw (range_none body i, add-one, one, comma) refl

-- any other character belongs to the value
pub fields_kept : (body : List ℕ) (start i : ℕ) → start ≤ i → i < length body → (get_or body i 0 == 44) ≡ false
    → fields_from (slice_range body start i) (drop i body) ≡ fields_from (slice_range body start (i + 1)) (drop (i + 1) body)
fields_kept body start i begun within other =
    let one = drop-cons body i 0 within in
    rw (range_more body start i begun within, add-one, one, other) refl

pub all_cut : (body : List ℕ) (start i : ℕ) (whole : Bool) → i < length body → (get_or body i 0 == 44) ≡ true → is_decimal (slice_range body start i) ≡ true
    → list_all is_decimal (fields_from (slice_range body start i) (drop i body)) ≡ whole
    → list_all is_decimal (fields_from (slice_range body (i + 1) (i + 1)) (drop (i + 1) body)) ≡ whole
all_cut body start i whole within comma good e =
    let cut = fields_cut body start i within comma in
    rw (cut, good) at e

pub all_kept : (body : List ℕ) (start i : ℕ) (whole : Bool) → start ≤ i → i < length body → (get_or body i 0 == 44) ≡ false
    → list_all is_decimal (fields_from (slice_range body start i) (drop i body)) ≡ whole
    → list_all is_decimal (fields_from (slice_range body start (i + 1)) (drop (i + 1) body)) ≡ whole
all_kept body start i whole begun within other e = rw (fields_kept body start i begun within other) at e

pub list_cut : (front : List (List ℕ)) (body : List ℕ) (start i : ℕ) (whole : List (List ℕ)) → i < length body → (get_or body i 0 == 44) ≡ true
    → front ++ fields_from (slice_range body start i) (drop i body) ≡ whole
    → (front ++ slice_range body start i ∷ []) ++ fields_from (slice_range body (i + 1) (i + 1)) (drop (i + 1) body) ≡ whole
list_cut front body start i whole within comma e =
    let cut = fields_cut body start i within comma in
    rw append_assoc (rw cut at e)

pub list_kept : (front : List (List ℕ)) (body : List ℕ) (start i : ℕ) (whole : List (List ℕ)) → start ≤ i → i < length body → (get_or body i 0 == 44) ≡ false
    → front ++ fields_from (slice_range body start i) (drop i body) ≡ whole
    → front ++ fields_from (slice_range body start (i + 1)) (drop (i + 1) body) ≡ whole
list_kept front body start i whole begun within other e = rw (fields_kept body start i begun within other) at e

pub sum_cut : (f : List ℕ → ℕ) (total : ℕ) (body : List ℕ) (start i whole : ℕ) → i < length body → (get_or body i 0 == 44) ≡ true
    → total + sum_by f (fields_from (slice_range body start i) (drop i body)) ≡ whole
    → (total + f (slice_range body start i)) + sum_by f (fields_from (slice_range body (i + 1) (i + 1)) (drop (i + 1) body)) ≡ whole
sum_cut f total body start i whole within comma e =
    let cut = fields_cut body start i within comma in
    let sums = sum_by-cons f (slice_range body start i) (fields_from (slice_range body (i + 1) (i + 1)) (drop (i + 1) body)) in
    let f2 = rw cut at e in
    omega arith

pub sum_kept : (f : List ℕ → ℕ) (total : ℕ) (body : List ℕ) (start i whole : ℕ) → start ≤ i → i < length body → (get_or body i 0 == 44) ≡ false
    → total + sum_by f (fields_from (slice_range body start i) (drop i body)) ≡ whole
    → total + sum_by f (fields_from (slice_range body start (i + 1)) (drop (i + 1) body)) ≡ whole
sum_kept f total body start i whole begun within other e = rw (fields_kept body start i begun within other) at e
