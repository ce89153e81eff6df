-- How bytes are shown.
use Rattle.std.proofs.Common.{◌≡◌, ℕ, zero, suc, ◌+◌, ◌<◌, ◌≤◌, ◌==◌, true, None, Some, Option, option_map, unwrap_or, List, [], ◌∷◌, ◌++◌, length, map, take, drop, refl, ap, ◌∙◌, lit<, nat_lt, arith}
use Rattle.std.specs.Prelude.{slice_set}
use Rattle.std.proofs.Math.ListN.{get_or, drop_of_length-le}
use Rattle.std.proofs.lemmas.List.{append-nil, take_all}
use Rattle.std.specs.List.{find, list_all}
use borrow.Author.Tests.{ltb-true}
use Rattle.cx_ebcdic.specs.Characters.{shown_as, table}
use Rattle.cx_ebcdic.specs.Facts.Lookup.{find_meets}

all_below : list_all (λ row. nat_lt row.0 128) table ≡ true
unfolding table
all_below = refl

below_in : (byte : ℕ) (o : Option (ℕ × ℕ)) → find (λ row. row.1 == byte) table ≡ o → unwrap_or (option_map (λ (r : ℕ × ℕ). r.0) o) 46 < 128
below_in byte None e = lit< tt
below_in byte (Some row) e = ltb-true _ _ (find_meets (λ (r : ℕ × ℕ). r.1 == byte) (λ r. nat_lt r.0 128) table row all_below e).1

-- each character that shows a byte is below 128
pub shown_below : (byte : ℕ) → shown_as byte < 128
unfolding shown_as
shown_below byte = below_in byte (find (λ row. row.1 == byte) table) refl

-- the first i of a list's elements are mapped, in place
abbrev pub mapped : {A : Type 0} → (A → A) → ℕ → List A → List A
mapped f i xs = map f (take i xs) ++ drop i xs

-- one more
pub one_more : {A : Type 0} (f : A → A) (xs : List A) (i : ℕ) (d : A) → i < length xs → slice_set (mapped f i xs) i (f (get_or (mapped f i xs) i d)) ≡ mapped f (i + 1) xs
one_more f [] i d within = absurd (omega (arith, within))
one_more f (x ∷ xs) zero d within = refl
one_more f (x ∷ xs) (suc i) d within =
    let one : suc i + 1 ≡ suc (i + 1) = omega arith in
    rw one (ap (λ l. f x ∷ l) (one_more f xs i d (omega (arith, within))))

-- all of them
pub all_mapped : {A : Type 0} (f : A → A) (xs : List A) (i : ℕ) → length xs ≤ i → mapped f i xs ≡ map f xs
all_mapped f xs i all = ap (λ l. map f l ++ drop i xs) (take_all i xs all) ∙ ap (λ l. map f xs ++ l) (drop_of_length-le xs all) ∙ append-nil (map f xs)
