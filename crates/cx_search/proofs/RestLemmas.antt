-- The places of states at rest, one state more.
use Rattle.std.proofs.Common.{◌≡◌, ℕ, ◌+◌, ◌<◌, ◌≤◌, Bool, true, false, List, [], ◌∷◌, ◌++◌, length, Option, Some, inl, inr, sym, subst, ◌∙◌, ap, arith}
use Rattle.std.specs.Prelude.{if◌then◌else◌, slice_get, MatchBool}
use Rattle.std.proofs.lemmas.Option.{same_Some, slice_get_within}
use Rattle.cx_search.specs.declared.found.Origin.{Origin}
use Rattle.cx_search.specs.Forever.{AtRest}
use Rattle.cx_search.specs.Rest.{AreResting, IsListed, IsNear, IsResting}
use Rattle.cx_search.specs.Facts.Items.{item_appended, item_kept, item_last}
use Rattle.cx_search.proofs.SearchLemmas.{below_next}

module _ {State : Type 0} (Goes : State → ℕ → State → Type 0) (found : List (State × Origin)) (cut : Option ℕ) where
  -- of the places below that one
  pub record AreSoFar (below : ℕ) (places : List ℕ) : Type 0 where
    pub each : (index place : ℕ) → slice_get places index ≡ Some place → IsResting Goes found cut place
    pub low : (index place : ℕ) → slice_get places index ≡ Some place → place < below
    pub all : (place : ℕ) → place < below → IsResting Goes found cut place → IsListed Goes found cut places place
    pub ordered : (one other p q : ℕ) → one < other → slice_get places one ≡ Some p → slice_get places other ≡ Some q → p < q

  pub none_so_far : AreSoFar 0 []
  none_so_far = record {
    each = λ index place is. absurd (omega (arith, slice_get_within [] index place is));
    low = λ index place is. absurd (omega (arith, slice_get_within [] index place is));
    all = λ place l is. absurd (omega (arith, l));
    ordered = λ one other p q l is it. absurd (omega (arith, slice_get_within [] one p is));
  }

  pub so_far_on : (below : ℕ) (places : List ℕ) → AreSoFar below places → IsResting Goes found cut below → AreSoFar (below + 1) (places ++ below ∷ [])
  so_far_on below places are rests = record {
    each = λ index place is. elim (item_appended places below place index is) [
      | inl old ↦ are.each index place old
      | inr e ↦ subst (IsResting Goes found cut) e.1 rests
    ];
    low = λ index place is. elim (item_appended places below place index is) [
      | inl old ↦ let l = are.low index place old in omega (arith, l)
      | inr e ↦ omega (arith, e.1)
    ];
    all = λ place l is. elim (below_next place below l) [
      | inl less ↦ let it = are.all place less is in record { index = it.index; at = item_kept places (below ∷ []) it.index place it.at }
      | inr e ↦ record { index = length places; at = item_last places below ∙ ap Some (sym e) }
    ];
    ordered = λ one other p q l is it. elim (item_appended places below q other it) [
      | inl old ↦ elim (item_appended places below p one is) [
        | inl first ↦ are.ordered one other p q l first old
        | inr e ↦ absurd (omega (arith, l, e.0, slice_get_within places other q old))
      ]
      | inr e ↦ elim (item_appended places below p one is) [
        | inl first ↦ let low = are.low one p first in omega (arith, low, e.1)
        | inr f ↦ absurd (omega (arith, l, e.0, f.0))
      ]
    ];
  }

  pub so_far_past : (below : ℕ) (places : List ℕ) → AreSoFar below places → (IsResting Goes found cut below → ⊥) → AreSoFar (below + 1) places
  so_far_past below places are never = record {
    each = are.each;
    low = λ index place is. let l = are.low index place is in omega (arith, l);
    all = λ place l is. elim (below_next place below l) [
      | inl less ↦ are.all place less is
      | inr e ↦ absurd (never (subst (IsResting Goes found cut) e is))
    ];
    ordered = are.ordered;
  }

  pub so_far_next : (below : ℕ) (places : List ℕ) (rests : Bool) → AreSoFar below places
      → MatchBool rests (IsResting Goes found cut below) (IsResting Goes found cut below → ⊥)
      → AreSoFar (below + 1) (if rests then places ++ below ∷ [] else places)
  so_far_next below places true are it = so_far_on below places are it
  so_far_next below places false are never = so_far_past below places are never

  pub resting_all : (below : ℕ) (places : List ℕ) → AreSoFar below places → length found ≤ below → AreResting Goes found cut places
  resting_all below places are enough = record {
    each = are.each;
    all = λ place is. are.all place (omega (arith, enough, slice_get_within found place (is.state, is.origin) is.there)) is;
    ordered = are.ordered;
  }

  -- what is said of the state at a place is said of the place
  pub rests_by : (place : ℕ) (state : State) (origin : Origin) (rests : Bool) → slice_get found place ≡ Some (state, origin) → IsNear cut origin.moves
      → MatchBool rests (AtRest Goes state) (AtRest Goes state → ⊥)
      → MatchBool rests (IsResting Goes found cut place) (IsResting Goes found cut place → ⊥)
  rests_by place state origin true there near rest = record { state = state; origin = origin; there = there; near = near; rest = rest }
  rests_by place state origin false there near never = λ is.
      let same = same_Some _ _ (sym is.there ∙ there) in
      never (subst (AtRest Goes) (ap (λ e. e.0) same) is.rest)

  pub not_near : (place : ℕ) (state : State) (origin : Origin) → slice_get found place ≡ Some (state, origin) → (IsNear cut origin.moves → ⊥)
      → IsResting Goes found cut place → ⊥
  not_near place state origin there far is =
      let same = same_Some _ _ (sym is.there ∙ there) in
      far (subst (λ (o : Origin). IsNear cut o.moves) (ap (λ e. e.1) same) is.near)
