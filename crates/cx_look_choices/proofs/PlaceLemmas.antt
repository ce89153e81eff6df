-- The places of states that a search found.
use Rattle.std.proofs.Common.{◌≡◌, ℕ, ◌<◌, ◌≤◌, List, map, Some, None, ap, sym, subst, ◌∙◌, arith}
use Rattle.std.specs.Prelude.{slice_get}
use Rattle.std.proofs.lemmas.Option.{same_Some}
use Rattle.cx_search.specs.declared.found.Origin.{Origin}
use Rattle.cx_search.specs.Found.{IsAt}
use Rattle.cx_choices.specs.declared.states.ChoicesState.{ChoicesState}
use Rattle.cx_look_choices.specs.Parts.Ways.{StandOnce, states_of}
use Rattle.cx_look_choices.specs.Rows.{IsOneOf, IsPlace}
use Rattle.cx_look_steps.specs.Facts.Lists.{mapped_item, of_mapped}
use Rattle.cx_look_choices.proofs.ListLemmas.{of_taken, taken}

module _ (found : List (ChoicesState × Origin)) where
  -- one state is at a place
  pub one_state : (p : ℕ) (s t : ChoicesState) → IsAt found p s → IsAt found p t → s ≡ t
  one_state p s t one other = ap (λ e. e.0) (same_Some (s, one.origin) (t, other.origin) (sym one.there ∙ other.there))

  abbrev pub all_states : List ChoicesState
  all_states = map (λ (entry : ChoicesState × Origin). entry.0) found

  pub at_of : (p : ℕ) (s : ChoicesState) → slice_get all_states p ≡ Some s → IsAt found p s
  at_of p s is =
      let it = of_mapped (λ (entry : ChoicesState × Origin). entry.0) found p s is in
      record { origin = it.0.1; there = subst (λ x. slice_get found p ≡ Some (x, it.0.1)) it.1.1 it.1.0 }

  pub of_at : (p : ℕ) (s : ChoicesState) → IsAt found p s → slice_get all_states p ≡ Some s
  of_at p s at = mapped_item (λ (entry : ChoicesState × Origin). entry.0) found p (s, at.origin) at.there

  module _ (many : ℕ) where
    pub stands_at : (p : ℕ) (s : ChoicesState) → p < many → IsAt found p s → slice_get (states_of many found) p ≡ Some s
    stands_at p s l at = taken all_states many p s l (of_at p s at)

    pub at_place : (p : ℕ) (s : ChoicesState) → slice_get (states_of many found) p ≡ Some s → (p < many) × IsAt found p s
    at_place p s is = let it = of_taken all_states many p s is in (it.0, at_of p s it.1)

    -- the place of a state among the first
    pub placed : (p : ℕ) (s : ChoicesState) → p < many → IsAt found p s → IsPlace (states_of many found) s (Some p)
    unfolding IsPlace
    placed p s l at = stands_at p s l at

    pub placed_past : StandOnce found → (p : ℕ) (s : ChoicesState) → many ≤ p → IsAt found p s → IsPlace (states_of many found) s None
    unfolding IsPlace
    placed_past once p s l at = λ (one : IsOneOf (states_of many found) s).
        let it = at_place one.place s one.at in
        let same = once one.place p s it.1 at in
        absurd (omega (arith, l, it.0, same))

    pub placed_nowhere : (s : ChoicesState) → ((p : ℕ) → IsAt found p s → ⊥) → IsPlace (states_of many found) s None
    unfolding IsPlace
    placed_nowhere s never = λ (one : IsOneOf (states_of many found) s). never one.place (at_place one.place s one.at).1
