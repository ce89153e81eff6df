-- The order of lists of moves.
use Rattle.std.proofs.Common.{◌≡◌, ℕ, ◌<◌, ◌≤◌, List, [], ◌∷◌, ◌++◌, length, ◌⊎◌, inl, inr, ap, sym, subst, refl, ◌∙◌, arith, length-append}
use Rattle.std.specs.Prelude.{reverse}
use Rattle.std.proofs.lemmas.Bool.{cases_order}
use Rattle.std.proofs.lemmas.List.{reverse-append, length-reverse}
use Rattle.cx_search.specs.Moves.{IsLower, IsSooner}

lower_trans : (xs ys zs : List ℕ) → IsLower xs ys → IsLower ys zs → IsLower xs zs
lower_trans [] ys zs l m = absurd l
lower_trans (x ∷ xs) [] zs l m = absurd l
lower_trans (x ∷ xs) (y ∷ ys) [] l m = absurd m
lower_trans (x ∷ xs) (y ∷ ys) (z ∷ zs) (inl l) (inl m) = inl (omega (arith, l, m))
lower_trans (x ∷ xs) (y ∷ ys) (z ∷ zs) (inl l) (inr e) = inl (omega (arith, l, e.0))
lower_trans (x ∷ xs) (y ∷ ys) (z ∷ zs) (inr d) (inl m) = inl (omega (arith, d.0, m))
lower_trans (x ∷ xs) (y ∷ ys) (z ∷ zs) (inr d) (inr e) = inr (d.0 ∙ e.0, lower_trans xs ys zs d.1 e.1)

lower_onto : (xs ys zs ws : List ℕ) → IsLower xs ys → IsLower (xs ++ zs) (ys ++ ws)
lower_onto [] ys zs ws l = absurd l
lower_onto (x ∷ xs) [] zs ws l = absurd l
lower_onto (x ∷ xs) (y ∷ ys) zs ws (inl l) = inl l
lower_onto (x ∷ xs) (y ∷ ys) zs ws (inr e) = inr (e.0, lower_onto xs ys zs ws e.1)

lower_last : (xs : List ℕ) (m n : ℕ) → m < n → IsLower (xs ++ m ∷ []) (xs ++ n ∷ [])
lower_last [] m n l = inl l
lower_last (x ∷ xs) m n l = inr (refl, lower_last xs m n l)

lower_not_self : (xs : List ℕ) → IsLower xs xs → ⊥
lower_not_self [] l = l
lower_not_self (x ∷ xs) (inl l) = omega (arith, l)
lower_not_self (x ∷ xs) (inr e) = lower_not_self xs e.1

-- of two lists as long as one another one is lower, or they are equal
lower_cases : (xs ys : List ℕ) → length xs ≡ length ys → (xs ≡ ys) ⊎ (IsLower xs ys ⊎ IsLower ys xs)
lower_cases [] [] e = inl refl
lower_cases [] (y ∷ ys) e = absurd (omega (arith, e))
lower_cases (x ∷ xs) [] e = absurd (omega (arith, e))
lower_cases (x ∷ xs) (y ∷ ys) e = elim (cases_order x y) [
  | inr (inl l) ↦ inr (inl (inl l))
  | inr (inr l) ↦ inr (inr (inl l))
  | inl s ↦ elim (lower_cases xs ys (omega (arith, e))) [
    | inl t ↦ inl (ap (λ z. z ∷ xs) s ∙ ap (λ zs. y ∷ zs) t)
    | inr (inl l) ↦ inr (inl (inr (s, l)))
    | inr (inr l) ↦ inr (inr (inr (sym s, l)))
  ]
]

-- of two lists one is sooner, or they are equal
pub sooner_cases : (xs ys : List ℕ) → (xs ≡ ys) ⊎ (IsSooner xs ys ⊎ IsSooner ys xs)
sooner_cases xs ys = elim (cases_order (length xs) (length ys)) [
  | inr (inl l) ↦ inr (inl (inl l))
  | inr (inr l) ↦ inr (inr (inl l))
  | inl e ↦ elim (lower_cases xs ys e) [
    | inl t ↦ inl t
    | inr (inl l) ↦ inr (inl (inr (e, l)))
    | inr (inr l) ↦ inr (inr (inr (sym e, l)))
  ]
]

pub sooner_trans : (xs ys zs : List ℕ) → IsSooner xs ys → IsSooner ys zs → IsSooner xs zs
sooner_trans xs ys zs (inl l) (inl m) = inl (omega (arith, l, m))
sooner_trans xs ys zs (inl l) (inr e) = inl (omega (arith, l, e.0))
sooner_trans xs ys zs (inr d) (inl m) = inl (omega (arith, d.0, m))
sooner_trans xs ys zs (inr d) (inr e) = inr (d.0 ∙ e.0, lower_trans xs ys zs d.1 e.1)

pub sooner_not_self : (xs : List ℕ) → IsSooner xs xs → ⊥
sooner_not_self xs (inl l) = omega (arith, l)
sooner_not_self xs (inr e) = lower_not_self xs e.1

pub sooner_length : (xs ys : List ℕ) → IsSooner xs ys → length xs ≤ length ys
sooner_length xs ys (inl l) = omega (arith, l)
sooner_length xs ys (inr e) = omega (arith, e.0)

-- the lists that are read from their ends
back : (n : ℕ) (b : List ℕ) → reverse (n ∷ b) ≡ reverse b ++ n ∷ []
back n b = reverse-append (n ∷ []) b

both_backs : (b c : List ℕ) (m n : ℕ) → IsSooner (reverse b ++ m ∷ []) (reverse c ++ n ∷ []) → IsSooner (reverse (m ∷ b)) (reverse (n ∷ c))
both_backs b c m n l =
    subst (λ xs. IsSooner xs (reverse (n ∷ c))) (sym (back m b)) (subst (λ ys. IsSooner (reverse b ++ m ∷ []) ys) (sym (back n c)) l)

pub shorter_back : (b c : List ℕ) → length b < length c → IsSooner (reverse b) (reverse c)
shorter_back b c l = inl (omega (arith, l, length-reverse b, length-reverse c))

pub length_back : (b c : List ℕ) → IsSooner (reverse b) (reverse c) → length b ≤ length c
length_back b c l = omega (arith, sooner_length (reverse b) (reverse c) l, length-reverse b, length-reverse c)

-- a move more at the ends
pub more_back : (b c : List ℕ) (m n : ℕ) → IsSooner (reverse b) (reverse c) → IsSooner (reverse (m ∷ b)) (reverse (n ∷ c))
more_back b c m n (inl l) = shorter_back (m ∷ b) (n ∷ c) (omega (arith, l, length-reverse b, length-reverse c))
more_back b c m n (inr e) =
    both_backs b c m n (inr (
      omega (arith, e.0, length-append (reverse b) (m ∷ []), length-append (reverse c) (n ∷ [])),
      lower_onto (reverse b) (reverse c) (m ∷ []) (n ∷ []) e.1,
    ))

pub last_back : (b : List ℕ) (m n : ℕ) → m < n → IsSooner (reverse (m ∷ b)) (reverse (n ∷ b))
last_back b m n l =
    both_backs b b m n (inr (omega (arith, length-append (reverse b) (m ∷ []), length-append (reverse b) (n ∷ [])), lower_last (reverse b) m n l))
