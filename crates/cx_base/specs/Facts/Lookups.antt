-- What is found under a name after a change of one entry.
use Rattle.std.proofs.Common.{◌≡◌, Bool, true, false, cond, Some, None, List, [], ◌∷◌, refl, sym, ◌∙◌, ap, ⊎_elim}
use Rattle.std.specs.Cmp.{IsEquivalence}
use Rattle.std.specs.List.{IsDistinct}
use Rattle.std.specs.Map.{lookup, set_value, keys_of, remove_entry}
use Rattle.std.proofs.lemmas.Bool.{cases_Bool, cond-true, cond-false}
use Rattle.std.proofs.lemmas.Option.{none-some}
use Rattle.std.proofs.lemmas.Map.{lookup-remove_entry}
use Rattle.indexmap.specs.IndexMap.{insert_entry}

-- an entry of one name isn't that of another
other_name : {K : Type 0} (eq : K → K → Bool) → IsEquivalence eq → (k q x : K) → eq k q ≡ false → eq k x ≡ true → eq q x ≡ false
other_name eq laws k q x apart same = laws.symm q x ∙ sym (laws.congr k x q same) ∙ apart

module _ {K V : Type 0} (eq : K → K → Bool) (laws : IsEquivalence eq) where
  pub lookup-insert_entry-same : (es : List (K × V)) (k : K) (v : V) → lookup (eq k) (insert_entry eq es k v) ≡ Some v
  lookup-insert_entry-same [] k v = cond-true _ _ _ (laws.refl k)
  lookup-insert_entry-same (e ∷ es) k v = ⊎_elim
      (λ yes. rw yes (cond-true _ _ _ yes))
      (λ no. rw no (cond-false _ _ _ no ∙ lookup-insert_entry-same es k v))
      (cases_Bool (eq k e.0))

  pub lookup-set_value-same : (es : List (K × V)) (k : K) (old v : V) → lookup (eq k) es ≡ Some old → lookup (eq k) (set_value (eq k) es v) ≡ Some v
  lookup-set_value-same [] k old v there = absurd (none-some old there)
  lookup-set_value-same (e ∷ es) k old v there = ⊎_elim
      (λ yes. rw yes (cond-true _ _ _ yes))
      (λ no. rw no (cond-false _ _ _ no ∙ lookup-set_value-same es k old v (sym (cond-false _ _ _ no) ∙ there)))
      (cases_Bool (eq k e.0))

  pub lookup-remove_entry-same : (es : List (K × V)) (k : K) → IsDistinct eq (keys_of es) → lookup (eq k) (remove_entry (eq k) es) ≡ None
  lookup-remove_entry-same es k apart =
      lookup-remove_entry laws (eq k) (laws.congr k) k es apart ∙ cond-true (eq k k) None (lookup (eq k) es) (laws.refl k)

  pub lookup-insert_entry-other : (es : List (K × V)) (k q : K) (v : V) → eq k q ≡ false → lookup (eq q) (insert_entry eq es k v) ≡ lookup (eq q) es
  lookup-insert_entry-other [] k q v apart = cond-false _ _ _ (laws.symm q k ∙ apart)
  lookup-insert_entry-other (e ∷ es) k q v apart = ⊎_elim
      (λ yes. rw yes (cond-false _ _ _ (other_name eq laws k q e.0 apart yes) ∙ sym (cond-false _ _ _ (other_name eq laws k q e.0 apart yes))))
      (λ no. rw no (ap (cond (eq q e.0) (Some e.1)) (lookup-insert_entry-other es k q v apart)))
      (cases_Bool (eq k e.0))

  pub lookup-set_value-other : (es : List (K × V)) (k q : K) (v : V) → eq k q ≡ false → lookup (eq q) (set_value (eq k) es v) ≡ lookup (eq q) es
  lookup-set_value-other [] k q v apart = refl
  lookup-set_value-other (e ∷ es) k q v apart = ⊎_elim
      (λ yes. rw yes (cond-false _ _ _ (other_name eq laws k q e.0 apart yes) ∙ sym (cond-false _ _ _ (other_name eq laws k q e.0 apart yes))))
      (λ no. rw no (ap (cond (eq q e.0) (Some e.1)) (lookup-set_value-other es k q v apart)))
      (cases_Bool (eq k e.0))

  pub lookup-remove_entry-other : (es : List (K × V)) (k q : K) → eq k q ≡ false → lookup (eq q) (remove_entry (eq k) es) ≡ lookup (eq q) es
  lookup-remove_entry-other [] k q apart = refl
  lookup-remove_entry-other (e ∷ es) k q apart = ⊎_elim
      (λ yes. rw yes (sym (cond-false _ _ _ (other_name eq laws k q e.0 apart yes))))
      (λ no. rw no (ap (cond (eq q e.0) (Some e.1)) (lookup-remove_entry-other es k q apart)))
      (cases_Bool (eq k e.0))
