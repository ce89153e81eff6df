-- The last of several texts, and operands that are empty.
use Rattle.std.proofs.Common.{◌≡◌, ℕ, zero, suc, ◌-◌, None, Err, List, [], ◌∷◌, length, map, refl, ap, ◌∙◌}
use Rattle.std.specs.Prelude.{slice_get, option_map}
use Rattle.cx_asm_expressions.specs.declared.faults.FaultKind.TheVariants.{BadOperand}
use Rattle.cx_asm_operands.specs.Context.{Context}
use Rattle.cx_asm_operands.specs.Directives.{using_in}
use Rattle.cx_asm_operands.specs.Forms.{literal_in, operands_of}
use denote.Ref.{Bor}

mapped : {A B : Type 0} (f : A → B) (xs : List A) (k : ℕ) → slice_get (map f xs) k ≡ option_map f (slice_get xs k)
mapped f [] k = refl
mapped f (x ∷ xs) zero = refl
mapped f (x ∷ xs) (suc k) = mapped f xs k

as_long : {A B : Type 0} (f : A → B) (xs : List A) → length (map f xs) ≡ length xs
as_long f [] = refl
as_long f (x ∷ xs) = ap suc (as_long f xs)

pub last_text : (texts : List (Bor (List ℕ))) → slice_get (map (λ t. t.now) texts) (length (map (λ t. t.now) texts) - 1) ≡ option_map (λ t. t.now) (slice_get texts (length texts - 1))
last_text texts = ap (λ n. slice_get (map (λ t. t.now) texts) (n - 1)) (as_long (λ t. t.now) texts) ∙ mapped (λ t. t.now) texts (length texts - 1)

-- nothing has no literal
pub none_in_nothing : (operand : List ℕ) → length operand ≡ 0 → literal_in operand ≡ None
unfolding literal_in
none_in_nothing [] e = refl
none_in_nothing (c ∷ operand) e = cc

-- and is no USING's
pub no_using : (c : Context) (operand : List ℕ) → length operand ≡ 0 → using_in c (operands_of operand) ≡ Err BadOperand
no_using c [] e = refl
no_using c (x ∷ operand) e = cc
