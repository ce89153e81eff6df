-- Types and their letters.
use Rattle.std.proofs.Common.{◌≡◌, ℕ, true, List, [], ◌∷◌, length, Some, None, refl, subst, arith}
use Rattle.std.specs.Prelude.{slice_index, ◌==◌, ◌↔◌}
use Rattle.std.proofs.lemmas.Bool.Decides.{nat_tests}
use Rattle.cx_ebcdic.specs.Facts.Lookup.{find_passes}
use Rattle.cx_asm_expressions.specs.Kinds.{kind_of, kinds, row_of_kind}
use Rattle.cx_asm_expressions.specs.declared.kinds.ConstantKind.{ConstantKind}

-- no type has no letter
pub no_kind_in : (rest : List ℕ) → length rest ≡ 0 → kind_of (slice_index rest 0) ≡ None
unfolding kind_of
no_kind_in [] e = refl
no_kind_in (c ∷ rest) e = absurd (omega arith)

-- each type is found by its letter
pub kind_of_letter : (kind : ConstantKind) → kind_of (row_of_kind kind).letter ≡ Some kind
unfolding kind_of
kind_of_letter kind = grind arith

passes : (letter : ℕ) (kind : ConstantKind) → kind_of letter ≡ Some kind → ((row_of_kind kind).letter == letter) ≡ true
unfolding kind_of
passes letter kind e = find_passes (λ k. (row_of_kind k).letter == letter) kinds kind e

same_letter : (a b : ℕ) → (a == b) ≡ true → a ≡ b
same_letter a b e = grind (arith, nat_tests)

-- a letter stands for a type exactly where it is that type's letter
pub kind_by_letter : (letter : ℕ) (kind : ConstantKind) → (kind_of letter ≡ Some kind) ↔ ((row_of_kind kind).letter ≡ letter)
kind_by_letter letter kind =
    (λ e. same_letter (row_of_kind kind).letter letter (passes letter kind e), λ e. subst (λ l. kind_of l ≡ Some kind) e (kind_of_letter kind))
