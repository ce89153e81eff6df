-- What can be tested holds or doesn't.
use Rattle.std.proofs.Common.{◌≡◌, ℕ, zero, suc, ◌<◌, ◌≤◌, ◌⊎◌, inl, inr, Bool, true, false, refl, sym, subst, arith}
use Rattle.std.proofs.lemmas.Bool.{true≢false}
use Rattle.std.proofs.lemmas.Bool.Decides.{leb_tells}

-- ---- numbers and truth values
pub le_or_not : (a b : ℕ) → (a ≤ b) ⊎ (a ≤ b → ⊥)
le_or_not a b = elim (leb_tells a b) [
  | inl t ↦ inl (omega (arith, t.1))
  | inr f ↦ inr (λ le. omega (arith, le, f.1))
]

pub zero_or_not : (a : ℕ) → (a ≡ 0) ⊎ (a ≡ 0 → ⊥)
zero_or_not zero = inl refl
zero_or_not (suc a) = inr (λ e. omega (arith, e))

pub lt_or_not : (a b : ℕ) → (a < b) ⊎ (a < b → ⊥)
lt_or_not a b = elim (leb_tells b a) [
  | inl t ↦ inr (λ below. omega (arith, t.1, below))
  | inr f ↦ inl (omega (arith, f.1))
]

pub same_or_not : (b c : Bool) → (b ≡ c) ⊎ (b ≡ c → ⊥)
same_or_not true true = inl refl
same_or_not true false = inr (λ e. true≢false e)
same_or_not false true = inr (λ e. true≢false (sym e))
same_or_not false false = inl refl

pub equal_or_not : (a b : ℕ) → (a ≡ b) ⊎ (a ≡ b → ⊥)
equal_or_not a b = elim (le_or_not a b) [
  | inl le ↦ elim (le_or_not b a) [
    | inl ge ↦ inl (omega (arith, le, ge))
    | inr above ↦ inr (λ e. above (omega (arith, e)))
  ]
  | inr above ↦ inr (λ e. above (omega (arith, e)))
]

-- ---- two of them, and one for each number
pub both_or_not : {A B : Type 0} → A ⊎ (A → ⊥) → B ⊎ (B → ⊥) → (A × B) ⊎ (A × B → ⊥)
both_or_not (inl a) (inl b) = inl (a, b)
both_or_not (inl a) (inr never) = inr (λ p. never p.1)
both_or_not (inr never) other = inr (λ p. never p.0)

-- of all numbers below one
pub all_below : (P : ℕ → Type 0) → ((k : ℕ) → P k ⊎ (P k → ⊥)) → (n : ℕ) → ((k : ℕ) → k < n → P k) ⊎ (((k : ℕ) → k < n → P k) → ⊥)
all_below P decide zero = inl (λ k below. absurd (omega (arith, below)))
all_below P decide (suc n) = go (decide n) (all_below P decide n)
  where
    at : (k : ℕ) → k < suc n → P n → ((j : ℕ) → j < n → P j) → P k
    at k below here all = elim (leb_tells n k) [
      | inl t ↦ (let same : n ≡ k = omega (arith, t.1, below) in subst P same here)
      | inr f ↦ all k (omega (arith, f.1))
    ]

    go : P n ⊎ (P n → ⊥) → ((k : ℕ) → k < n → P k) ⊎ (((k : ℕ) → k < n → P k) → ⊥) → ((k : ℕ) → k < suc n → P k) ⊎ (((k : ℕ) → k < suc n → P k) → ⊥)
    go (inl here) (inl all) = inl (λ k below. at k below here all)
    go (inl here) (inr never) = inr (λ all. never (λ k below. all k (omega (arith, below))))
    go (inr never) rest = inr (λ all. never (all n (omega arith)))

-- the least number with a property; or none below a number has it
abbrev pub Least : (ℕ → Type 0) → ℕ → Type 0
Least P n = ((a : ℕ) × P a × ((b : ℕ) → P b → a ≤ b)) ⊎ ((b : ℕ) → b < n → P b → ⊥)

least_after : (P : ℕ → Type 0) (n : ℕ) → P n ⊎ (P n → ⊥) → Least P n → Least P (suc n)
least_after P n here (inl found) = inl found
least_after P n (inl p) (inr none) =
    inl (
      n,
      p,
      λ b q. elim (leb_tells n b) [
        | inl t ↦ omega (arith, t.1)
        | inr f ↦ absurd (none b (omega (arith, f.1)) q)
      ],
    )
least_after P n (inr never) (inr none) =
    inr (λ b below q. elim (leb_tells n b) [
      | inl t ↦ (let same : b ≡ n = omega (arith, t.1, below) in never (subst P same q))
      | inr f ↦ none b (omega (arith, f.1)) q
    ])

pub least : (P : ℕ → Type 0) → ((b : ℕ) → P b ⊎ (P b → ⊥)) → (n : ℕ) → Least P n
least P decide zero = inr (λ b below q. omega (arith, below))
least P decide (suc n) = least_after P n (decide n) (least P decide n)
