-- The outcomes of the first places of states at rest, one place more, and those of all.
use Rattle.std.proofs.Common.{◌≡◌, ℕ, ◌+◌, ◌<◌, ◌≤◌, List, [], ◌∷◌, ◌++◌, length, Option, Some, None, ◌⊎◌, inl, inr, ap, refl, sym, subst, ◌∙◌, arith}
use Rattle.std.specs.Prelude.{slice_get}
use Rattle.std.proofs.lemmas.Bool.{cases_lt, cases_order}
use Rattle.std.proofs.lemmas.Option.{none-some, same_Some, slice_get_within}
use Rattle.cx_search.specs.declared.found.Origin.{Origin}
use Rattle.cx_search.specs.Finds.{Finds}
use Rattle.cx_search.specs.Forever.{AtRest}
use Rattle.cx_search.specs.Found.{IsAt}
use Rattle.cx_search.specs.Laws.{FirstIsOne, SoonerOrders}
use Rattle.cx_search.specs.Moves.{IsSooner, Leads}
use Rattle.cx_search.specs.Rest.{AreResting, IsNear}
use Rattle.cx_look_tasks.specs.Laws.{WaitsTextsDecide}
use Rattle.cx_look_lines.specs.Words.{Lines}
use Rattle.cx_region.specs.State.{RegionState}
use Rattle.cx_orders.specs.Moves.{Moves}
use Rattle.cx_orders.specs.declared.states.KeyLine.{KeyLine}
use Rattle.cx_orders.specs.declared.states.Keys.{Keys}
use Rattle.cx_orders.specs.declared.states.OrdersState.{OrdersState}
use Rattle.cx_look_orders.specs.Outcomes.{AreOutcomes, EndsWith, HasText, IsWritten}
use Rattle.cx_look_steps.specs.Steps.{NoLater, Telling, moves_of}
use Rattle.cx_look_orders.specs.Parts.Ways.{AreFirstSteps, AreOfFirst, AreSorted, IsOfFirst, IsTextAt, Reaches}
use Rattle.cx_look_orders.specs.Rest.{RestText, keys_text}
use Rattle.cx_look_steps.specs.Incidents.{incident_line}
use Rattle.cx_look_orders.specs.declared.outcomes.Outcome.{Outcome}
use Rattle.cx_look_steps.specs.declared.steps.Step.{Step}
use Rattle.cx_search.specs.Facts.Items.{item_appended, item_kept, item_last}
use Rattle.cx_look_steps.specs.Facts.Lists.{below_next}
use Rattle.cx_look_orders.proofs.PlaceLemmas.{kept_least, kept_moves, no_later, one_state}
use Rattle.std.specs.List.{flat_map}
use Rattle.cx_look_orders.specs.Facts.Outcomes.{many_moves, near_less}

-- what is seen of a region is determined
abbrev pub ShowsDecide : (RegionState → Lines → Type 0) → Type 0
ShowsDecide Shows = (region : RegionState) (one other : Lines) → Shows region one → Shows region other → one ≡ other

-- so is what is written of a state at rest
pub rest_texts_decide : (Shows : RegionState → Lines → Type 0) → ShowsDecide Shows → WaitsTextsDecide → (keys : List KeyLine) (state : OrdersState) (one other : Lines)
    → RestText Shows keys state one → RestText Shows keys state other → one ≡ other
rest_texts_decide Shows shown waits keys state one other p q =
    p.is
    ∙ ap (λ w. flat_map (incident_line state.region) state.incidents ++ w ++ keys_text state keys keys ++ p.sight) (waits state.region p.waits q.waits p.waiting q.waiting)
    ∙ ap (λ s. flat_map (incident_line state.region) state.incidents ++ q.waits ++ keys_text state keys keys ++ s) (shown state.region p.sight q.sight p.seen q.seen)
    ∙ sym q.is

module _ (Shows : RegionState → Lines → Type 0) (tells : Telling) (keys : Keys) (start : OrdersState) (found : List (OrdersState × Origin)) (places : List ℕ)
    (shown : ShowsDecide Shows) (waits : WaitsTextsDecide) where
  abbrev First : ℕ → List Outcome → Type 0
  First = AreOfFirst Shows tells keys start found places

  abbrev TextAt : ℕ → Lines → Type 0
  TextAt = IsTextAt Shows keys start found places

  same_state : (index : ℕ) (one other : Lines) (p : TextAt index one) (q : TextAt index other) → p.state ≡ q.state
  same_state index one other p q =
      one_state keys start found q.place p.state q.state (subst (λ k. IsAt found k p.state) (same_Some p.place q.place (sym p.there ∙ q.there)) p.at) q.at

  text_at_one : (index : ℕ) (one other : Lines) → TextAt index one → TextAt index other → one ≡ other
  text_at_one index one other p q =
      rest_texts_decide Shows shown waits keys.lines q.state one other (subst (λ s. RestText Shows keys.lines s one) (same_state index one other p q) p.shows) q.shows

  pub first_none : First 0 []
  first_none = record {
    each = λ k one is. absurd (none-some one is);
    all = λ index text l is. absurd (omega (arith, l));
    written = λ index place state l there is. absurd (omega (arith, l));
    ordered = λ j k one other l is it. absurd (none-some one is);
  }

  one_more : (many : ℕ) (one : Outcome) → IsOfFirst Shows tells keys start found places many one → IsOfFirst Shows tells keys start found places (many + 1) one
  one_more many one o = record { index = o.index; below = let l = o.below in omega (arith, l); text = o.text; steps = o.steps; new = o.new }

  kept_text : (outcomes more : List Outcome) (text : Lines) → HasText outcomes text → HasText (outcomes ++ more) text
  kept_text outcomes more text h = record { place = h.place; one = h.one; at = item_kept outcomes more h.place h.one h.at; same = h.same }

  kept_written : (outcomes more : List Outcome) (state : OrdersState) → IsWritten Shows keys.lines outcomes state → IsWritten Shows keys.lines (outcomes ++ more) state
  kept_written outcomes more state w = record { place = w.place; one = w.one; at = item_kept outcomes more w.place w.one w.at; shows = w.shows }

  -- where an outcome has its text, the state at the place is written
  abbrev AllWritten : ℕ → List Outcome → Type 0
  AllWritten many outcomes = (index place : ℕ) (state : OrdersState) → index < many → slice_get places index ≡ Some place → IsAt found place state
      → IsWritten Shows keys.lines outcomes state

  written_at : (many : ℕ) (outcomes : List Outcome) (text : Lines) → TextAt many text → HasText outcomes text → (place : ℕ) (state : OrdersState)
      → slice_get places many ≡ Some place → IsAt found place state → IsWritten Shows keys.lines outcomes state
  written_at many outcomes text at has place state there is =
      let same = one_state keys start found place at.state state (subst (λ k. IsAt found k at.state) (same_Some at.place place (sym at.there ∙ there)) at.at) is in
      record { place = has.place; one = has.one; at = has.at; shows = subst (RestText Shows keys.lines state) (sym has.same) (subst (λ s. RestText Shows keys.lines s text) same at.shows) }

  all_written : (many : ℕ) (outcomes : List Outcome) (known : Lines) → AllWritten many outcomes → TextAt many known → HasText outcomes known
      → AllWritten (many + 1) outcomes
  all_written many outcomes known all at has index place state l there is = elim (below_next index many l) [
    | inl m ↦ all index place state m there is
    | inr e ↦ written_at many outcomes known at has place state (subst (λ k. slice_get places k ≡ Some place) e there) is
  ]

  -- the text of one place more
  all_known : (many : ℕ) (outcomes : List Outcome) (known : Lines) → ((index : ℕ) (text : Lines) → index < many → TextAt index text → HasText outcomes text)
      → TextAt many known → HasText outcomes known → (index : ℕ) (text : Lines) → index < many + 1 → TextAt index text → HasText outcomes text
  all_known many outcomes known all at has index text l is = elim (below_next index many l) [
    | inl m ↦ all index text m is
    | inr e ↦ subst (HasText outcomes) (text_at_one many known text at (subst (λ k. TextAt k text) e is)) has
  ]

  pub first_known : (many : ℕ) (outcomes : List Outcome) (text : Lines) → First many outcomes → TextAt many text → HasText outcomes text → First (many + 1) outcomes
  first_known many outcomes text are at has = record {
    each = λ k one is. one_more many one (are.each k one is);
    all = all_known many outcomes text are.all at has;
    written = all_written many outcomes text are.written at has;
    ordered = are.ordered;
  }

  -- where there is no such place, or none of a state
  pub first_past : (many : ℕ) (outcomes : List Outcome) → First many outcomes
      → ((place : ℕ) (state : OrdersState) → slice_get places many ≡ Some place → IsAt found place state → ⊥) → First (many + 1) outcomes
  first_past many outcomes are none = record {
    each = λ k one is. one_more many one (are.each k one is);
    all = λ index text l is. elim (below_next index many l) [
      | inl m ↦ are.all index text m is
      | inr e ↦ absurd (none is.place is.state (subst (λ k. slice_get places k ≡ Some is.place) e is.there) is.at)
    ];
    written = λ index place state l there is. elim (below_next index many l) [
      | inl m ↦ are.written index place state m there is
      | inr e ↦ absurd (none place state (subst (λ k. slice_get places k ≡ Some place) e there) is)
    ];
    ordered = are.ordered;
  }

  -- those of as many places as there are, or more, are those of all
  pub first_whole : (many : ℕ) (outcomes : List Outcome) → length places ≤ many → First many outcomes → First (length places) outcomes
  first_whole many outcomes enough are = record {
    each = λ k one is.
        let o = are.each k one is in
        record { index = o.index; below = slice_get_within places o.index o.text.place o.text.there; text = o.text; steps = o.steps; new = o.new };
    all = λ index text l is. are.all index text (omega (arith, l, enough)) is;
    written = λ index place state l there is. are.written index place state (omega (arith, l, enough)) there is;
    ordered = are.ordered;
  }

  module _ (sorted : AreSorted places) (f : Finds (Moves keys) start found) where
    -- the list of an outcome of a place before is sooner
    sooner_first : (many : ℕ) (one : Outcome) (text : Lines) (steps : List Step) → IsOfFirst Shows tells keys start found places many one → (at : TextAt many text)
        → AreFirstSteps tells keys start at.state steps → IsSooner (moves_of one.steps) (moves_of steps)
    sooner_first many one text steps o at are =
        f.ordered o.text.place at.place o.text.state at.state (moves_of one.steps) (moves_of steps)
        (sorted o.index many o.text.place at.place o.below o.text.there at.there) o.text.at at.at o.steps.first are.first

    pub first_new : (many : ℕ) (outcomes : List Outcome) (new : Outcome) → First many outcomes → (at : TextAt many new.text) → (HasText outcomes new.text → ⊥)
        → AreFirstSteps tells keys start at.state new.steps → First (many + 1) (outcomes ++ new ∷ [])
    first_new many outcomes new are at never steps =
        let of_new : IsOfFirst Shows tells keys start found places (many + 1) new = record {
          index = many;
          below = omega arith;
          text = at;
          steps = steps;
          new = λ other l is. never (are.all other new.text l is);
        } in
        let has_new : HasText (outcomes ++ new ∷ []) new.text = record { place = length outcomes; one = new; at = item_last outcomes new; same = refl } in
        record {
          each = λ k one is. elim (item_appended outcomes new one k is) [
            | inl old ↦ one_more many one (are.each k one old)
            | inr e ↦ subst (IsOfFirst Shows tells keys start found places (many + 1)) e.1 of_new
          ];
          all = all_known many (outcomes ++ new ∷ []) new.text (λ index text l is. kept_text outcomes (new ∷ []) text (are.all index text l is)) at
              has_new;
          written = all_written many (outcomes ++ new ∷ []) new.text (λ index place state l there is. kept_written outcomes (new ∷ []) state (are.written index place state l there is)) at
              has_new;
          ordered = λ j k one other l is it. elim (item_appended outcomes new other k it) [
            | inl old ↦ elim (item_appended outcomes new one j is) [
              | inl first ↦ are.ordered j k one other l first old
              | inr e ↦ absurd (omega (arith, l, e.0, slice_get_within outcomes k other old))
            ]
            | inr e ↦ elim (item_appended outcomes new one j is) [
              | inl first ↦ subst (λ (o : Outcome). IsSooner (moves_of one.steps) (moves_of o.steps)) e.1
                  (sooner_first many one new.text new.steps (are.each j one first) at steps)
              | inr d ↦ absurd (omega (arith, l, e.0, d.0))
            ]
          ];
        }

    -- ---- all places
    module _ (cut : Option ℕ) (sooner : SoonerOrders) (unique : FirstIsOne (Moves keys)) (rest : AreResting (Moves keys) found cut places)
        (reaches : Reaches keys start found cut) (outcomes : List Outcome) (are : First (length places) outcomes) where
      -- the state at one of the places
      resting_at : (index : ℕ) (text : Lines) (at : TextAt index text) → (origin : Origin) × ((slice_get found at.place ≡ Some (at.state, origin)) × (IsNear cut origin.moves × AtRest (Moves keys) at.state))
      resting_at index text at =
          let r = rest.each index at.place at.there in
          let same = one_state keys start found at.place r.state at.state (record { origin = r.origin; there = r.there }) at.at in
          (r.origin, (subst (λ s. slice_get found at.place ≡ Some (s, r.origin)) same r.there, (r.near, subst (AtRest (Moves keys)) same r.rest)))

      -- a list of few moves that leads to rest leads to the state at one of the places
      listed_rest : (moves : List ℕ) (to : OrdersState) → Leads (Moves keys) start moves to → AtRest (Moves keys) to → IsNear cut (length moves)
          → (index : ℕ) × ((place : ℕ) × ((slice_get places index ≡ Some place) × (IsAt found place to)))
      listed_rest moves to leads at_rest near =
          let it = reaches moves to leads near in
          let least = kept_least keys start found sooner f it.place to it.is.origin moves it.is.there leads in
          let listed = rest.all it.place (record { state = to; origin = it.is.origin; there = it.is.there; near = near_less cut it.is.origin.moves (length moves) least near; rest = at_rest }) in
          (listed.index, (it.place, (listed.at, it.is)))

      -- and so with its text
      listed_end : (moves : List ℕ) (text : Lines) (e : EndsWith Shows keys start moves text) → IsNear cut (length moves)
          → (index : ℕ) × ((at : TextAt index text) × ((at.state ≡ e.to) × (index < length places)))
      listed_end moves text e near =
          let it = listed_rest moves e.to e.leads e.rest near in
          (it.0, (record { place = it.1.0; there = it.1.1.0; state = e.to; at = it.1.1.1; shows = e.shows }, (refl, slice_get_within places it.0 it.1.0 it.1.1.0)))

      place_order : (one other p q : ℕ) → one ≤ other → slice_get places one ≡ Some p → slice_get places other ≡ Some q → p ≤ q
      place_order one other p q l is it = elim (cases_order one other) [
        | inl e ↦ let same = same_Some p q (sym is ∙ ap (λ k. slice_get places k) e ∙ it) in omega (arith, same)
        | inr (inl m) ↦ let less = sorted one other p q m is it in omega (arith, less)
        | inr (inr m) ↦ absurd (omega (arith, l, m))
      ]

      soonest_near : (k : ℕ) (one : Outcome) → slice_get outcomes k ≡ Some one → (moves : List ℕ) → EndsWith Shows keys start moves one.text → IsNear cut (length moves)
          → NoLater (moves_of one.steps) moves
      soonest_near k one is moves e near =
          let o = are.each k one is in
          let end = listed_end moves one.text e near in
          elim (cases_lt end.0 o.index) [
            | inl before ↦ absurd (o.new end.0 before end.1.0)
            | inr l ↦ no_later keys start found sooner f o.text.place end.1.0.place o.text.state e.to (moves_of one.steps) moves
                (place_order o.index end.0 o.text.place end.1.0.place l o.text.there end.1.0.there) o.text.at
                (subst (IsAt found end.1.0.place) end.1.1.0 end.1.0.at) o.steps.first e.leads
          ]

      outcome_near : (k : ℕ) (one : Outcome) → slice_get outcomes k ≡ Some one → IsNear cut (length one.steps)
      outcome_near k one is =
          let o = are.each k one is in
          let r = resting_at o.index one.text o.text in
          let many = kept_moves keys start found sooner f unique o.text.place o.text.state r.0 (moves_of one.steps) r.1.0 o.steps.first in
          near_less cut (length one.steps) r.0.moves (omega (arith, many, many_moves one.steps)) r.1.1.0

      -- a list is of few moves, or longer than that of an outcome
      near_or_longer : (c : Option ℕ) (steps : List Step) (moves : List ℕ) → IsNear c (length steps) → IsNear c (length moves) ⊎ (length (moves_of steps) < length moves)
      near_or_longer None steps moves near = inl tt
      near_or_longer (Some most) steps moves near = elim (cases_lt most (length moves)) [
        | inl l ↦ inr (omega (arith, l, near, many_moves steps))
        | inr l ↦ inl l
      ]

      soonest : (k : ℕ) (one : Outcome) → slice_get outcomes k ≡ Some one → (moves : List ℕ) → EndsWith Shows keys start moves one.text → NoLater (moves_of one.steps) moves
      soonest k one is moves e = elim (near_or_longer cut one.steps moves (outcome_near k one is)) [
        | inl near ↦ soonest_near k one is moves e near
        | inr longer ↦ inr (inl longer)
      ]

      pub all_outcomes : AreOutcomes Shows tells keys start cut outcomes
      all_outcomes = record {
        each = λ k one is.
            let o = are.each k one is in
            record {
              to = o.text.state;
              steps = o.steps.are;
              rest = (resting_at o.index one.text o.text).1.1.1;
              shows = o.text.shows;
              near = outcome_near k one is;
              soonest = soonest k one is;
            };
        all = λ moves text e near.
            let end = listed_end moves text e near in
            are.all end.0 text end.1.1.1 end.1.0;
        written = λ moves to leads at_rest near.
            let it = listed_rest moves to leads at_rest near in
            are.written it.0 it.1.0 to (slice_get_within places it.0 it.1.0 it.1.1.0) it.1.1.0 it.1.1.1;
        ordered = are.ordered;
      }
