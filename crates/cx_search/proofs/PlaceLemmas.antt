-- The place of a state in a map.
use Rattle.std.proofs.Common.{◌≡◌, ℕ, Bool, true, Option, None, Some, sym, ap, ◌∙◌, refl, is_some, get_or, false, true≢false}
use Rattle.std.specs.Prelude.{slice_get, position, option_map}
use Rattle.std.specs.Cmp.{IsEquivalence}
use Rattle.std.specs.Map.{keys_of}
use Rattle.std.specs.HashMap.{HashMap, IsUnique, get}
use Rattle.std.proofs.lemmas.Map.Entries.{hash_map_get_place}
use Rattle.std.proofs.lemmas.List.Quantifiers.{position-Some}
use Rattle.std.proofs.lemmas.Option.{none-some, same_Some, slice_get-map, slice_get-get_or}
use Rattle.indexmap.proofs.MapLemmas.{Missing-position}
use Rattle.cx_search.specs.declared.found.Origin.{Origin}
use Rattle.cx_search.specs.Found.{IsAt}

module _ {State S : Type 0} {eq : State → State → Bool} (laws : IsEquivalence eq) (m : HashMap State Origin S) where
  -- a state that isn't in the map is at no place
  pub absent_place : IsUnique eq m → (t : State) → get eq m t ≡ None → (place : ℕ) → IsAt m.entries place t → ⊥
  absent_place unique t none place at = none-some at.origin (sym none ∙ hash_map_get_place laws m place t at.origin unique at.there)

module _ {State S : Type 0} {eq : State → State → Bool} (m : HashMap State Origin S) where
  -- one that is equal to the key at a place is there
  pub present_place : ((x y : State) → eq x y ≡ true → x ≡ y) → (t : State) (place : ℕ) → position (eq t) (keys_of m.entries) ≡ Some place
      → IsAt m.entries place t
  present_place exact t place found =
      let first = position-Some (eq t) (keys_of m.entries) place t found in
      by (slice_get m.entries place) refl (slice_get-get_or (keys_of m.entries) place t first.0) (exact t _ first.1)
    where
      by : (e : Option (State × Origin)) → slice_get m.entries place ≡ e → slice_get (keys_of m.entries) place ≡ Some (get_or (keys_of m.entries) place t)
          → t ≡ get_or (keys_of m.entries) place t → IsAt m.entries place t
      by None at key same = absurd (none-some _ (sym (slice_get-map (λ e. e.0) m.entries place ∙ ap (option_map (λ e. e.0)) at) ∙ key))
      by (Some (k, v)) at key same =
          let is : k ≡ t = same_Some _ _ (sym (slice_get-map (λ e. e.0) m.entries place ∙ ap (option_map (λ e. e.0)) at) ∙ key) ∙ sym same in
          record { origin = v; there = at ∙ ap (λ x. Some (x, v)) is }

-- an option that isn't some
pub none_of : {X : Type 0} (o : Option X) → is_some o ≡ false → o ≡ None
none_of None is = refl
none_of (Some x) is = absurd (true≢false is)

-- a state at no place isn't in the map
pub absent_get : {State S : Type 0} {eq : State → State → Bool} → ((x y : State) → eq x y ≡ true → x ≡ y) → (m : HashMap State Origin S) (t : State)
    → ((place : ℕ) → IsAt m.entries place t → ⊥) → get eq m t ≡ None
absent_get {eq = eq} exact m t never = by (position (eq t) (keys_of m.entries)) refl
  where
    by : (r : Option ℕ) → position (eq t) (keys_of m.entries) ≡ r → get eq m t ≡ None
    by None is = (Missing-position (eq t) m.entries is).value
    by (Some place) is = absurd (never place (present_place m exact t place is))
