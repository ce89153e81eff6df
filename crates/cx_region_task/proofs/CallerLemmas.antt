-- The nearest caller comes before the current level.
use Rattle.std.proofs.Common.{◌≡◌, ℕ, ◌+◌, ◌-◌, ◌<◌, ◌≤◌, List, [], ◌∷◌, ◌++◌, length, reverse, Some, None, option_map, refl, ap, ◌∙◌, arith, slice_get}
use Rattle.std.proofs.lemmas.List.{append_assoc, length-reverse}
use Rattle.std.proofs.lemmas.Grind.{reverse_onto}
use Rattle.cx_program.specs.declared.level.Level.{Level}
use Rattle.cx_program.specs.Levels.{Levels, all_levels}

after : {A : Type 0} → (xs ys : List A) (x : A) → slice_get (xs ++ x ∷ ys) (length xs) ≡ Some x
after [] ys x = refl
after (y ∷ xs) ys x = after xs ys x

shown : (callers : List Level) (caller current : Level) → slice_get (reverse (caller ∷ callers) ++ current ∷ []) (length callers) ≡ Some caller
shown callers caller current =
    rw (reverse_onto callers caller [], append_assoc (reverse callers) (caller ∷ []) (current ∷ []), ← length-reverse callers) (after (reverse callers) (current ∷ []) caller)

pub calen_none : (callers : List Level) (n : ℕ) → n ≡ length callers + 1 → n < 2 → None ≡ option_map (λ caller. caller.calen) (slice_get callers 0)
calen_none [] n is few = refl
calen_none (caller ∷ callers) n is few = absurd (omega (arith, is, few))

calen_found : (levels : Levels) (n : ℕ) → n ≡ length levels.callers + 1 → 2 ≤ n
    → option_map (λ level. level.calen) (slice_get (all_levels levels) (n - 2)) ≡ option_map (λ caller. caller.calen) (slice_get levels.callers 0)
calen_found levels n is some = go levels.callers is
  where
    go : (callers : List Level) → n ≡ length callers + 1 → option_map (λ level. level.calen) (slice_get (reverse callers ++ levels.current ∷ []) (n - 2)) ≡ option_map (λ caller. caller.calen) (slice_get callers 0)
    go [] e = absurd (omega (arith, e, some))
    go (caller ∷ callers) e = let at : n - 2 ≡ length callers = omega (arith, e) in rw (at, shown callers caller levels.current) refl

pub calen_some : (levels : Levels) (n : ℕ) (caller : Level) → n ≡ length levels.callers + 1 → 2 ≤ n → Some caller ≡ slice_get (all_levels levels) (n - 2)
    → Some caller.calen ≡ option_map (λ caller. caller.calen) (slice_get levels.callers 0)
calen_some levels n caller is some found = ap (option_map (λ level. level.calen)) found ∙ calen_found levels n is some

pub calen_lost : (levels : Levels) (n : ℕ) → n ≡ length levels.callers + 1 → 2 ≤ n → None ≡ slice_get (all_levels levels) (n - 2)
    → None ≡ option_map (λ caller. caller.calen) (slice_get levels.callers 0)
calen_lost levels n is some found = ap (option_map (λ level. level.calen)) found ∙ calen_found levels n is some
