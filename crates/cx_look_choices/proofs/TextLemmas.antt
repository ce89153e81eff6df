-- What is written, by what a search came to.
use Rattle.std.proofs.Common.{◌≡◌, ℕ, ◌+◌, ◌≤◌, List, [], ◌∷◌, ◌++◌, length, length-append, true, false, Option, Some, inl, inr, sym, subst, ◌∙◌, arith}
use Rattle.std.specs.Prelude.{slice_get}
use Rattle.std.proofs.lemmas.List.{length-map}
use Rattle.cx_search.specs.declared.found.Origin.{Origin}
use Rattle.cx_search.specs.declared.within.Reach.{Reach}
use Rattle.cx_search.specs.declared.within.Reach.TheVariants.{Closed, Full, Open}
use Rattle.cx_search.specs.Facts.Items.{item_appended}
use Rattle.cx_search.specs.Finds.{Finds, FindsNearest}
use Rattle.cx_search.specs.Found.{IsAt}
use Rattle.cx_search.specs.Within.{IsNear, Reaches}
use Rattle.cx_look_lines.specs.Words.{Lines}
use Rattle.cx_region.specs.State.{RegionState}
use Rattle.cx_orders.specs.declared.states.KeyLine.{KeyLine}
use Rattle.cx_choices.specs.Moves.{Goes, begun}
use Rattle.cx_choices.specs.declared.states.ChoicesState.{ChoicesState}
use Rattle.cx_look_choices.specs.Parts.Ways.{HasFound, limit_of, report_of}
use Rattle.cx_look_choices.specs.Report.{ChoicesText, HasFew, HasMany}
use Rattle.cx_look_choices.specs.Rows.{AreRows}
use Rattle.cx_look_choices.specs.declared.rows.StateRow.{StateRow}
use Rattle.cx_look_choices.proofs.PlaceLemmas.{all_states, at_of, of_at}

module _ (choices : List KeyLine) (one_number : Option ℕ) (region : RegionState) (found : List (ChoicesState × Origin)) (links : List (List ℕ)) (most : ℕ)
    (f : Finds (Goes choices one_number) (begun region) found) (few : length found ≤ most) where
  abbrev Found : ℕ → Type 0
  Found = HasFound choices one_number region found

  longer : (at more : ℕ) → at ≤ more → Found more → Found at
  longer at more l all = λ state near. all state (record { list = near.list; leads = near.leads; short = let m = near.short in omega (arith, m, l) })

  as_many : length (all_states found) ≡ length found
  as_many = length-map found (λ (entry : ChoicesState × Origin). entry.0)

  has_few : (keys : ℕ) → Found keys → HasFew choices one_number region most keys
  has_few keys all = record {
    states = all_states found;
    all = λ state near. let it = all state near in record { place = it.place; at = of_at found it.place state it.is };
    few = let e = as_many in omega (arith, e, few);
  }

  module _ (at : ℕ) (nearest : FindsNearest (Goes choices one_number) (begun region) found most at) where
    found_near : Found at
    found_near state near = nearest.near near.list state near.leads near.short

    abbrev more : List ChoicesState
    more = all_states found ++ nearest.more ∷ []

    old_near : (p : ℕ) (s : ChoicesState) → slice_get (all_states found) p ≡ Some s → IsNear (Goes choices one_number) (begun region) (at + 1) s
    old_near p s is =
        let it = at_of found p s is in
        let led = f.led p s it.origin it.there in
        let far = nearest.far p s it.origin it.there in
        let m = led.many in
        record { list = led.moves; leads = led.first.leads; short = omega (arith, m, far) }

    more_each : (p : ℕ) (s : ChoicesState) → slice_get more p ≡ Some s → IsNear (Goes choices one_number) (begun region) (at + 1) s
    more_each p s is = elim (item_appended (all_states found) nearest.more s p is) [
      | inl old ↦ old_near p s old
      | inr e ↦ subst (IsNear (Goes choices one_number) (begun region) (at + 1)) e.1
          (record { list = nearest.list; leads = nearest.leads; short = let m = nearest.long in omega (arith, m) })
    ]

    more_new : (p : ℕ) (s : ChoicesState) → slice_get (all_states found) p ≡ Some s → nearest.more ≡ s → ⊥
    more_new p s is e = nearest.new p (subst (IsAt found p) (sym e) (at_of found p s is))

    more_once : (p q : ℕ) (s : ChoicesState) → slice_get more p ≡ Some s → slice_get more q ≡ Some s → p ≡ q
    more_once p q s one other = elim (item_appended (all_states found) nearest.more s p one) [
      | inl old ↦ elim (item_appended (all_states found) nearest.more s q other) [
        | inl too ↦ f.once p q s (at_of found p s old) (at_of found q s too)
        | inr e ↦ absurd (more_new p s old e.1)
      ]
      | inr d ↦ elim (item_appended (all_states found) nearest.more s q other) [
        | inl too ↦ absurd (more_new q s too d.1)
        | inr e ↦ d.0 ∙ sym e.0
      ]
    ]

    has_many : HasMany choices one_number region most (at + 1)
    has_many = record {
      states = more;
      near = record { each = more_each; once = more_once };
      many =
          let e = length-append (all_states found) (nearest.more ∷ []) in
          let d = as_many in
          let full = nearest.full in
          omega (arith, e, d, full);
    }

  module _ (keys : ℕ) where
    -- all states were found that are to be written
    pub has_found : (reach : Reach) → Reaches (Goes choices one_number) (begun region) found links most keys reach → Found (limit_of reach keys)
    has_found Closed reaches = λ state near. reaches.0.all near.list state near.leads
    has_found Open reaches = longer keys (keys + 1) (omega arith) reaches.0.near
    has_found (Full at) reaches = found_near at reaches.0

    module _ (Shows : RegionState → Lines → Type 0) (edf : List (List ℕ)) (texts : List Lines) (rows : List StateRow) (lines : Lines) where
      pub text_of : (reach : Reach) → Reaches (Goes choices one_number) (begun region) found links most keys reach
          → AreRows Shows choices one_number region (limit_of reach keys) texts rows
          → lines ≡ report_of region choices one_number edf texts rows keys most reach
          → ChoicesText Shows choices one_number region edf keys most lines
      text_of Closed reaches are is = inl (record {
        count = has_few (keys + 1) (λ state near. reaches.0.all near.list state near.leads);
        texts = texts;
        rows = rows;
        are = are;
        is_closed = true;
        closed = reaches.1;
        is = is;
      })
      text_of Open reaches are is = inl (record {
        count = has_few (keys + 1) reaches.0.near;
        texts = texts;
        rows = rows;
        are = are;
        is_closed = false;
        closed = reaches.1;
        is = is;
      })
      text_of (Full at) reaches are is = inr (record {
        at = at;
        within = reaches.1;
        count = has_few at (found_near at reaches.0);
        more = has_many at reaches.0;
        texts = texts;
        rows = rows;
        are = are;
        is = is;
      })
