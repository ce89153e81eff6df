-- Where the keys with the first numbers lead, one key more, and all keys.
use Rattle.std.proofs.Common.{◌≡◌, ℕ, ◌+◌, ◌<◌, ◌≤◌, List, [], ◌∷◌, ◌++◌, length, Option, Some, inl, inr, ap, sym, subst, ◌∙◌, arith}
use Rattle.std.specs.Prelude.{slice_get}
use Rattle.std.proofs.lemmas.Option.{none-some, slice_get_within}
use Rattle.cx_search.specs.Facts.Items.{item_appended, item_kept, item_last}
use Rattle.cx_region.specs.State.{RegionState}
use Rattle.cx_orders.specs.declared.states.KeyLine.{KeyLine}
use Rattle.cx_choices.specs.Moves.{Chooses}
use Rattle.cx_choices.specs.declared.states.ChoicesState.{ChoicesState}
use Rattle.cx_choices.specs.declared.states.Passage.{Passage}
use Rattle.cx_look_choices.specs.Parts.Ways.{AreFirstArrows, IsArrowOf}
use Rattle.cx_look_choices.specs.Rows.{AreArrows, HasArrow, IsArrow}
use Rattle.cx_look_choices.specs.declared.rows.Arrow.{Arrow}
use Rattle.cx_look_steps.specs.Facts.Lists.{below_next}

module _ (choices : List KeyLine) (one_number : Option ℕ) (region : RegionState) (states : List ChoicesState) (from : ChoicesState) where
  abbrev First : ℕ → List Arrow → Type 0
  First = AreFirstArrows choices one_number region states from

  pub first_none : First 0 []
  first_none = record {
    each = λ place arrow at. absurd (none-some arrow at);
    below = λ place arrow at. absurd (none-some arrow at);
    all = λ number passage l chooses. absurd (omega (arith, l));
    ordered = λ j k one other l is it. absurd (none-some one is);
  }

  pub first_past : (many : ℕ) (arrows : List Arrow) → First many arrows → ((passage : Passage) → Chooses choices one_number from.region many passage → ⊥)
      → First (many + 1) arrows
  first_past many arrows are never = record {
    each = are.each;
    below = λ place arrow at. let l = are.below place arrow at in omega (arith, l);
    all = λ number passage l chooses. elim (below_next number many l) [
      | inl m ↦ are.all number passage m chooses
      | inr e ↦ absurd (never passage (subst (λ n. Chooses choices one_number from.region n passage) e chooses))
    ];
    ordered = are.ordered;
  }

  kept : (arrows more : List Arrow) (number : ℕ) → HasArrow choices one_number region arrows number → HasArrow choices one_number region (arrows ++ more) number
  kept arrows more number has = record { place = has.place; arrow = has.arrow; at = item_kept arrows more has.place has.arrow has.at; is = has.is }

  below_on : (many : ℕ) (arrows : List Arrow) (new arrow : Arrow) (place : ℕ) → First many arrows → new.choice ≡ many → slice_get (arrows ++ new ∷ []) place ≡ Some arrow
      → arrow.choice < many + 1
  below_on many arrows new arrow place are of at = elim (item_appended arrows new arrow place at) [
    | inl old ↦ let l = are.below place arrow old in omega (arith, l)
    | inr e ↦ let same = ap (λ (a : Arrow). a.choice) e.1 in omega (arith, same, of)
  ]

  pub first_on : (many : ℕ) (arrows : List Arrow) (new : Arrow) → First many arrows → IsArrowOf choices one_number region states from many new
      → First (many + 1) (arrows ++ new ∷ [])
  first_on many arrows new are is = record {
    each = λ place arrow at. elim (item_appended arrows new arrow place at) [
      | inl old ↦ are.each place arrow old
      | inr e ↦ subst (IsArrow choices one_number region states from) e.1 is.is
    ];
    below = λ place arrow at. below_on many arrows new arrow place are is.of at;
    all = λ number passage l chooses. elim (below_next number many l) [
      | inl m ↦ kept arrows (new ∷ []) number (are.all number passage m chooses)
      | inr e ↦ record { place = length arrows; arrow = new; at = item_last arrows new; is = is.of ∙ sym e }
    ];
    ordered = λ j k one other l it also. elim (item_appended arrows new other k also) [
      | inl old ↦ elim (item_appended arrows new one j it) [
        | inl first ↦ are.ordered j k one other l first old
        | inr e ↦ absurd (omega (arith, l, e.0, slice_get_within arrows k other old))
      ]
      | inr e ↦ elim (item_appended arrows new one j it) [
        | inl first ↦
            let m = are.below j one first in
            let same = ap (λ (a : Arrow). a.choice) e.1 in
            let of = is.of in
            omega (arith, m, same, of)
        | inr d ↦ absurd (omega (arith, l, e.0, d.0))
      ]
    ];
  }

  pub all_arrows : (many : ℕ) (arrows : List Arrow) → length choices ≤ many → First many arrows → AreArrows choices one_number region states from arrows
  all_arrows many arrows enough are = record {
    each = are.each;
    all = λ number passage chooses.
        let within = slice_get_within choices number chooses.choice chooses.is in
        are.all number passage (omega (arith, within, enough)) chooses;
    ordered = are.ordered;
  }
