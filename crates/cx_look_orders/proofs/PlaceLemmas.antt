-- The places of states that a search found, and the lists that lead to them.
use Rattle.std.proofs.Common.{◌≡◌, ℕ, ◌+◌, ◌≤◌, List, [], ◌∷◌, length, ◌++◌, length-append, map, Option, Some, None, inl, inr, ap, sym, subst, ◌∙◌, arith}
use Rattle.std.specs.Prelude.{MatchBool, MatchOption, is_some, slice_get}
use Rattle.std.proofs.lemmas.Bool.{cases_lt, cases_order}
use Rattle.std.proofs.lemmas.Option.{same_Some}
use Rattle.cx_search.specs.declared.found.Origin.{Origin}
use Rattle.cx_search.specs.Finds.{Finds, FindsAll, FindsNearest}
use Rattle.cx_search.specs.Forever.{CanRest, IsFirstPlaceOf, Loops}
use Rattle.cx_search.specs.Found.{IsAt}
use Rattle.cx_search.specs.Laws.{FirstIsOne, SoonerOrders}
use Rattle.cx_search.specs.Moves.{IsFirst, IsSooner, Leads}
use Rattle.cx_search.specs.Rest.{IsNear}
use Rattle.cx_orders.specs.Moves.{Moves}
use Rattle.cx_orders.specs.declared.states.Keys.{Keys}
use Rattle.cx_orders.specs.declared.states.OrdersState.{OrdersState}
use Rattle.cx_look_orders.specs.Outcomes.{AllCanRest, AreReached, HasReached, HasStates, IsCutAt, IsReached, IsStuck, LoopsFirst}
use Rattle.cx_look_steps.specs.Steps.{NoLater, Telling, moves_of}
use Rattle.cx_look_orders.specs.Parts.Ways.{AreFirstSteps, Reaches}
use Rattle.cx_look_steps.specs.declared.steps.Step.{Step}
use Rattle.std.proofs.lemmas.List.{length-map}
use Rattle.cx_search.specs.Facts.Items.{item_appended}
use Rattle.cx_look_steps.specs.Facts.Lists.{mapped_item, of_mapped}

-- a list that is no later is no longer
pub no_longer : (ms ns : List ℕ) → NoLater ms ns → length ms ≤ length ns
no_longer ms ns (inl e) = omega (arith, ap length e)
no_longer ms ns (inr (inl l)) = omega (arith, l)
no_longer ms ns (inr (inr e)) = omega (arith, e.0)

module _ (keys : Keys) (start : OrdersState) (found : List (OrdersState × Origin)) where
  abbrev Goes : OrdersState → ℕ → OrdersState → Type 0
  Goes = Moves keys

  -- one state is at a place
  pub one_state : (p : ℕ) (s t : OrdersState) → IsAt found p s → IsAt found p t → s ≡ t
  one_state p s t one other = ap (λ e. e.0) (same_Some (s, one.origin) (t, other.origin) (sym one.there ∙ other.there))

  pub whole_reaches : FindsAll Goes start found → Reaches keys start found None
  whole_reaches all moves state leads near = all moves state leads

  module _ (sooner : SoonerOrders) (f : Finds Goes start found) where
    -- a list that leads first to a state is no later than one to a state that isn't before it
    pub no_later : (p q : ℕ) (s t : OrdersState) (ms ns : List ℕ) → p ≤ q → IsAt found p s → IsAt found q t → IsFirst Goes start ms s → Leads Goes start ns t
        → NoLater ms ns
    no_later p q s t ms ns l one other first leads = elim (cases_order p q) [
      | inl e ↦
          let same = one_state q s t (subst (λ k. IsAt found k s) e one) other in
          first.soonest ns (subst (λ x. Leads Goes start ns x) (sym same) leads)
      | inr (inl m) ↦
          let led = f.led q t other.origin other.there in
          let before = f.ordered p q s t ms led.moves m one other first led.first in
          elim (led.first.soonest ns leads) [
            | inl e ↦ inr (subst (IsSooner ms) e before)
            | inr later ↦ inr (sooner.onward ms led.moves ns before later)
          ]
      | inr (inr m) ↦ absurd (omega (arith, l, m))
    ]

    -- as many moves are kept with a state as a list has that leads there first
    pub kept_moves : (one : FirstIsOne Goes) (p : ℕ) (s : OrdersState) (origin : Origin) (ms : List ℕ) → slice_get found p ≡ Some (s, origin) → IsFirst Goes start ms s
        → length ms ≡ origin.moves
    kept_moves one p s origin ms there first =
        let led = f.led p s origin there in ap length (one start s ms led.moves first led.first) ∙ led.many

    -- no list is shorter
    pub kept_least : (p : ℕ) (s : OrdersState) (origin : Origin) (ms : List ℕ) → slice_get found p ≡ Some (s, origin) → Leads Goes start ms s → origin.moves ≤ length ms
    kept_least p s origin ms there leads =
        let led = f.led p s origin there in
        omega (arith, led.many, no_longer led.moves ms (led.first.soonest ms leads))

    -- ---- how many states there are
    abbrev states : List OrdersState
    states = map (λ (entry : OrdersState × Origin). entry.0) found

    at_of : (p : ℕ) (s : OrdersState) → slice_get states p ≡ Some s → IsAt found p s
    at_of p s is =
        let it = of_mapped (λ (entry : OrdersState × Origin). entry.0) found p s is in
        record { origin = it.0.1; there = subst (λ x. slice_get found p ≡ Some (x, it.0.1)) it.1.1 it.1.0 }

    of_at : (p : ℕ) (s : OrdersState) → IsAt found p s → slice_get states p ≡ Some s
    of_at p s at = mapped_item (λ (entry : OrdersState × Origin). entry.0) found p (s, at.origin) at.there

    reached_at : (cut : Option ℕ) → ((p : ℕ) (s : OrdersState) (origin : Origin) → slice_get found p ≡ Some (s, origin) → IsNear cut origin.moves)
        → AreReached keys start cut states
    reached_at cut near = record {
      each = λ p s is.
          let at = at_of p s is in
          let led = f.led p s at.origin at.there in
          record { moves = led.moves; leads = led.first.leads; near = subst (IsNear cut) (sym led.many) (near p s at.origin at.there) };
      once = λ p q s one other. f.once p q s (at_of p s one) (at_of q s other);
    }

    has_all : (cut : Option ℕ) → Reaches keys start found cut → HasReached keys start cut states
    has_all cut reaches s is = let it = reaches is.moves s is.leads is.near in record { place = it.place; at = of_at it.place s it.is }

    pub counted : FindsAll Goes start found → HasStates keys start (length found)
    counted all = record {
      states = states;
      reached = reached_at None (λ p s origin there. tt);
      all = has_all None (whole_reaches all);
      is = sym (length-map found (λ (entry : OrdersState × Origin). entry.0));
    }

    -- ---- where a search is cut
    pub cut_reaches : (most moves : ℕ) → FindsNearest Goes start found most moves → Reaches keys start found (Some moves)
    cut_reaches most moves nearest list state leads near = nearest.near list state leads near

    module _ (most moves : ℕ) (nearest : FindsNearest Goes start found most moves) where
      abbrev more : List OrdersState
      more = states ++ nearest.more ∷ []

      states_near : (p : ℕ) (s : OrdersState) (origin : Origin) → slice_get found p ≡ Some (s, origin) → IsNear (Some (moves + 1)) origin.moves
      states_near p s origin there = nearest.far p s origin there

      more_each : (p : ℕ) (s : OrdersState) → slice_get more p ≡ Some s → IsReached keys start (Some (moves + 1)) s
      more_each p s is = elim (item_appended states nearest.more s p is) [
        | inl old ↦ (reached_at (Some (moves + 1)) states_near).each p s old
        | inr e ↦ subst (IsReached keys start (Some (moves + 1))) e.1 (record { moves = nearest.list; leads = nearest.leads; near = omega (arith, nearest.long) })
      ]

      more_new : (p : ℕ) (s : OrdersState) → slice_get states p ≡ Some s → nearest.more ≡ s → ⊥
      more_new p s is e = nearest.new p (subst (IsAt found p) (sym e) (at_of p s is))

      more_once : (p q : ℕ) (s : OrdersState) → slice_get more p ≡ Some s → slice_get more q ≡ Some s → p ≡ q
      more_once p q s one other = elim (item_appended states nearest.more s p one) [
        | inl old ↦ elim (item_appended states nearest.more s q other) [
          | inl too ↦ f.once p q s (at_of p s old) (at_of q s too)
          | inr e ↦ absurd (more_new p s old e.1)
        ]
        | inr d ↦ elim (item_appended states nearest.more s q other) [
          | inl too ↦ absurd (more_new q s too d.1)
          | inr e ↦ d.0 ∙ sym e.0
        ]
      ]

      many_more : length more ≡ length found + 1
      many_more = omega (arith, length-append states (nearest.more ∷ []), length-map found (λ (entry : OrdersState × Origin). entry.0))

      pub cut_at : length found ≤ most → IsCutAt keys start most moves
      cut_at few = record {
        near = states;
        all = has_all (Some moves) (cut_reaches most moves nearest);
        few = omega (arith, few, length-map found (λ (entry : OrdersState × Origin). entry.0));
        more = more;
        reached = record { each = more_each; once = more_once };
        many = omega (arith, many_more, nearest.full);
      }

    -- ---- moves without an end
    pub loops_first : (tells : Telling) → FindsAll Goes start found → (p : ℕ) (is : IsFirstPlaceOf (Loops Goes) found p) (steps : List Step)
        → AreFirstSteps tells keys start is.is.state steps → LoopsFirst tells keys start steps
    loops_first tells all p is steps are = record {
      to = is.is.state;
      are = are.are;
      loops = is.is.is;
      soonest = λ moves there leads loops.
          let it = all moves there leads in
          elim (cases_lt it.place p) [
            | inl before ↦ absurd (is.first it.place there before it.is loops)
            | inr l ↦ no_later p it.place is.is.state there (moves_of steps) moves l is.is.at it.is are.first leads
          ];
    }

  -- ---- states from which no rest can be come to
  module _ (f : Finds Goes start found) where
    stuck_by : (p : ℕ) → IsFirstPlaceOf (λ state. CanRest Goes state → ⊥) found p → IsStuck keys start
    stuck_by p is =
        let led = f.led p is.is.state is.is.at.origin is.is.at.there in
        record { moves = led.moves; there = is.is.state; leads = led.first.leads; never = is.is.is }

    -- whether there is such a state, by its place
    pub stuck_cases : (place : Option ℕ) → MatchOption place (AllCanRest keys start) (IsFirstPlaceOf (λ state. CanRest Goes state → ⊥) found)
        → MatchBool (is_some place) (IsStuck keys start) (AllCanRest keys start)
    stuck_cases None all = all
    stuck_cases (Some place) is = stuck_by place is
