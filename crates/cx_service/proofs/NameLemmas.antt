-- Two names of resources are the same exactly where they are equal.
use Rattle.std.proofs.Common.{◌≡◌, ℕ, ◌-◌, Bool, true, List, ◌++◌, length, take, replicate, refl, sym, ◌∙◌, ap, subst, rules}
use Rattle.std.specs.Prelude.{◌↔◌}
use Rattle.std.proofs.lemmas.Bool.{true≢false}
use Rattle.std.proofs.lemmas.List.{take_at}
use Rattle.cx_service.specs.Resources.{is_resource}
use Rattle.cx_service.specs.declared.resources.ResourceName.{ResourceName}
use Rattle.cx_service.specs.declared.resources.ResourceName.TheVariants.{Bytes, Address}
use Rattle.cx_service.specs.contracts.resources.NameBytesPartialEq.TheImpl as bytes_impl

abbrev is_bytes : List ℕ → List ℕ → Bool
is_bytes = (bytes_impl.ghosts).eq

parts : (a b : List ℕ) → is_bytes a b ≡ true → (a ++ replicate (255 - length a) 0 ≡ b ++ replicate (255 - length b) 0) × (length a ≡ length b)
parts a b same = search rules

same_bytes : (a b : List ℕ) → is_bytes a b ≡ true → a ≡ b
same_bytes a b same =
    let both = parts a b same in
    sym (take_at a (replicate (255 - length a) 0) (length a) refl)
    ∙ ap (take (length a)) both.0
    ∙ take_at b (replicate (255 - length b) 0) (length a) (sym both.1)

alike : (a : List ℕ) → is_bytes a a ≡ true
alike a = search rules

alike_resource : (a : ResourceName) → is_resource a a ≡ true
alike_resource a = search rules

pub same_resource : (one other : ResourceName) → is_resource one other ≡ true → one ≡ other
same_resource (Bytes a) (Bytes b) same = let e : a ≡ b = same_bytes a b (search rules) in cc
same_resource (Bytes a) (Address b) same = absurd (true≢false (sym same))
same_resource (Address a) (Bytes b) same = absurd (true≢false (sym same))
same_resource (Address a) (Address b) same = search rules

pub resource_is : (one other : ResourceName) → (is_resource one other ≡ true) ↔ (one ≡ other)
resource_is one other = (same_resource one other, λ e. subst (λ o. is_resource one o ≡ true) e (alike_resource one))
