-- A text that is two words with a blank between.
use Rattle.std.proofs.Common.{◌≡◌, ◌≢◌, ℕ, Bool, true, false, List, [], ◌∷◌, ◌++◌, nat_eq, refl, sym, ◌∙◌, ap}
use Rattle.std.specs.Prelude.{◌&&◌}
use Rattle.std.specs.Str.{bytes_eq}
use Rattle.std.proofs.lemmas.Bool.{eq-eqb, ne_eqb}
use Rattle.std.proofs.lemmas.Slice.Eq.{bytes_eq-Decides}
use Rattle.cx_base.specs.Commands.{with_blank_between}

unequal : (b : Bool) (one other : List ℕ) → one ≢ other → bytes_eq one other ≡ b → false ≡ b
unequal true one other apart e = absurd (apart ((bytes_eq-Decides one other).0 e))
unequal false one other apart e = refl

-- a text that doesn't begin with the first word
pub not_begun : (text first second : List ℕ) → ((rest : List ℕ) → text ≢ first ++ rest) → false ≡ bytes_eq text (with_blank_between first second)
not_begun text first second apart = unequal (bytes_eq text (with_blank_between first second)) text (with_blank_between first second) (apart (32 ∷ second)) refl

front_same : (first one other : List ℕ) → bytes_eq (first ++ one) (first ++ other) ≡ bytes_eq one other
front_same [] one other = refl
front_same (x ∷ xs) one other = ap (λ b. b && bytes_eq (xs ++ one) (xs ++ other)) (eq-eqb x x refl) ∙ front_same xs one other

-- what follows the first word
pub begun : (text first second rest : List ℕ) → text ≡ first ++ rest → bytes_eq rest (32 ∷ second) ≡ bytes_eq text (with_blank_between first second)
begun text first second rest e = sym (ap (λ t. bytes_eq t (with_blank_between first second)) e ∙ front_same first rest (32 ∷ second))

pub blank_after : (rest last second : List ℕ) (blank : ℕ) → rest ≡ blank ∷ last → blank ≡ 32 → bytes_eq last second ≡ bytes_eq rest (32 ∷ second)
blank_after rest last second blank e is = sym (ap (λ r. bytes_eq r (32 ∷ second)) (e ∙ ap (λ x. x ∷ last) is))

pub no_blank_after : (rest last second : List ℕ) (blank : ℕ) → rest ≡ blank ∷ last → (blank ≡ 32 → ⊥) → nat_eq blank 32 ≡ bytes_eq rest (32 ∷ second)
no_blank_after rest last second blank e apart =
    ne_eqb blank 32 apart ∙ sym (ap (λ r. bytes_eq r (32 ∷ second)) e ∙ ap (λ b. b && bytes_eq last second) (ne_eqb blank 32 apart))
