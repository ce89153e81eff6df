-- One text is written of a region.
use Rattle.std.proofs.Common.{◌≡◌, ℕ, ◌+◌, ◌/◌, ◌<◌, ◌≤◌, List, [], ◌∷◌, ◌++◌, length, drop, Bool, true, false, Option, Some, None, inl, inr, ap, refl, sym, subst, ◌∙◌, arith}
use Rattle.std.specs.Prelude.{MatchBool, slice_get}
use Rattle.std.specs.List.{IsDistinct}
use Rattle.std.specs.Map.{keys_of as names_of}
use Rattle.std.proofs.lemmas.Bool.{cases_order}
use Rattle.std.proofs.lemmas.Option.{none-some, same_Some}
use Rattle.cx_ebcdic.specs.Names.{is_name}
use Rattle.cx_search.specs.Laws.{BoundedNeverLoop, SoonerOrders}
use Rattle.cx_search.specs.Moves.{IsSooner}
use Rattle.cx_region_laws.specs.Laws.Regions.{KeysKeepToTheirTerminal, TurnsDecide, TurnsKeepToTheirTask}
use Rattle.cx_look_lines.specs.Words.{Lines}
use Rattle.cx_region.specs.State.{RegionState}
use Rattle.cx_orders.specs.Facts.Same.{same_equivalence, same_is, same_state}
use Rattle.cx_orders.specs.Laws.{MovesDecide}
use Rattle.cx_orders.specs.Moves.{Moves, begun}
use Rattle.cx_orders.specs.declared.states.Keys.{Keys}
use Rattle.cx_orders.specs.declared.states.OrdersState.{OrdersState}
use Rattle.cx_look_orders.specs.Laws.{ReportsDecide}
use Rattle.cx_look_orders.specs.Outcomes.{AllCanRest, AreOutcomes, AreReached, HasReached, HasStates, IsCutAt, IsOutcome, IsReached, IsStuck, MayLoop}
use Rattle.cx_look_orders.specs.Parts.Ways.{came_between}
use Rattle.cx_look_orders.specs.Report.{cut_line, loop_lines, outcomes_lines, stuck_line, whole_line}
use Rattle.cx_look_steps.specs.Steps.{AreSteps, Telling, move_number, moves_of}
use Rattle.cx_look_orders.specs.declared.outcomes.Outcome.{Outcome}
use Rattle.cx_look_steps.specs.declared.steps.Step.{Step}
use Rattle.cx_look_steps.specs.Facts.Items.{at_most as items_at_most}
use Rattle.cx_look_steps.specs.Facts.Lists.{same_lists}
use Rattle.cx_look_steps.specs.Facts.Soonest.{both_soonest}
use Rattle.cx_look_orders.specs.Facts.Outcomes.{ends_with, many_moves, move_of, near_less, same_moves, steps_lead}
use Rattle.cx_look_orders.specs.Facts.Steps.{half_of_step, key_of_step, told_of_step}

module _ (decide : MovesDecide) (turns : TurnsDecide) (turned : TurnsKeepToTheirTask)
    (keyed : KeysKeepToTheirTerminal) (tells : Telling) (keys : Keys) where
  -- ---- steps
  abbrev Named : OrdersState → Type 0
  Named state = IsDistinct is_name (names_of state.region.terminals)

  move_names : (from to : OrdersState) (move : ℕ) → Moves keys from move to → Named from → Named to
  move_names from to move m named = elim m.by [
    | inl t ↦ subst (IsDistinct is_name) (sym (turned from.region m.name t.1.reply to.region t.1.takes).names) named
    | inr k ↦ subst (IsDistinct is_name)
        (sym (keyed from.region m.name _ k.1.comes.reply to.region k.1.comes.takes).names) named
  ]

  same_steps : (one other : Step) → one.number ≡ other.number → one.key ≡ other.key → one.told ≡ other.told
      → one ≡ other
  same_steps one other p q r = λ i. record { number = p i; key = q i; told = r i }

  -- the steps of one list of moves are determined
  pub steps_decide : (from s t : OrdersState) (ones others : List Step) → Named from → AreSteps tells keys from ones s
      → AreSteps tells keys from others t
      → moves_of ones ≡ moves_of others → ones ≡ others
  unfolding AreSteps
  steps_decide from s t [] [] named are too e = refl
  steps_decide from s t [] (other ∷ others) named are too e =
      absurd (none-some (move_number other) (ap (λ ms. slice_get ms 0) e))
  steps_decide from s t (one ∷ ones) [] named are too e =
      absurd (none-some (move_number one) (ap (λ ms. slice_get ms 0) (sym e)))
  steps_decide from s t (one ∷ ones) (other ∷ others) named are too e =
      let move : move_number one ≡ move_number other =
      same_Some (move_number one) (move_number other) (ap (λ ms. slice_get ms 0) e) in
      let number : one.number ≡ other.number =
      sym (half_of_step one) ∙ ap (λ n. n / 2) move ∙ half_of_step other in
      let first = move_of tells keys from are.between one are.is in
      let second = subst (λ n. Moves keys from n too.between) (sym move)
      (move_of tells keys from too.between other too.is) in
      let between = decide keys from are.between too.between (move_number one) named first second in
      let key = key_of_step tells keys from are.between one are.is
      ∙ ap (λ (to : OrdersState). came_between from.come to.come one.number) between
      ∙ ap (λ n. came_between from.come too.between.come n) number
      ∙ sym (key_of_step tells keys from too.between other too.is) in
      let rest = steps_decide are.between s t ones others (move_names from are.between (move_number one) first named) are.rest
      (subst (λ x. AreSteps tells keys x others t) (sym between) too.rest) (ap (λ ms. drop 1 ms) e) in
      let told = told_of_step tells keys turns from are.between too.between one other number key are.is too.is in
      ap (λ z. z ∷ ones) (same_steps one other number key told) ∙ ap (λ zs. other ∷ zs) rest

  -- ---- outcomes
  module _ (sooner : SoonerOrders) (start : OrdersState) (named : Named start) where
    abbrev Less : Outcome → Outcome → Type 0
    Less one other = IsSooner (moves_of one.steps) (moves_of other.steps)

    same_outcomes : (one other : Outcome) → one.text ≡ other.text → one.steps ≡ other.steps → one ≡ other
    same_outcomes one other p q = λ i. record { text = p i; steps = q i }

    module _ (Shows : RegionState → Lines → Type 0) (cut : Option ℕ) where
      -- outcomes of one text are one
      same_by_text : (one other : Outcome) → IsOutcome Shows tells keys start cut one → IsOutcome Shows tells keys start cut other
          → one.text ≡ other.text → one ≡ other
      same_by_text one other is too e =
          let moves = same_moves sooner Shows tells keys start cut one other is too e in
          same_outcomes one other e
          (steps_decide start is.to too.to one.steps other.steps named is.steps too.steps moves)

      outcomes_within : (ones others : List Outcome) → AreOutcomes Shows tells keys start cut ones
          → AreOutcomes Shows tells keys start cut others
          → (k : ℕ) (one : Outcome) → slice_get ones k ≡ Some one → (j : ℕ) × (slice_get others j ≡ Some one)
      outcomes_within ones others are too k one at =
          let is = are.each k one at in
          let h = too.all (moves_of one.steps) one.text (ends_with Shows tells keys start cut one one.text is refl)
          (near_less cut (length (moves_of one.steps)) (length one.steps)
          (omega (arith, many_moves one.steps)) is.near) in
          (h.place, h.at ∙ ap Some (same_by_text h.one one (too.each h.place h.one h.at) is h.same))

      pub outcomes_decide : (ones others : List Outcome) → AreOutcomes Shows tells keys start cut ones
          → AreOutcomes Shows tells keys start cut others → ones ≡ others
      outcomes_decide ones others are too =
          same_lists Less (λ one l. sooner.not_self (moves_of one.steps) l)
          (λ x y z l m. sooner.onward (moves_of x.steps) (moves_of y.steps) (moves_of z.steps) l m)
          ones others are.ordered too.ordered (outcomes_within ones others are too)
          (outcomes_within others ones too are)

    -- ---- moves without an end
    loops_decide : BoundedNeverLoop (Moves keys) → (one other : Option (List Step)) → MayLoop tells keys start one
        → MayLoop tells keys start other → one ≡ other
    loops_decide never None None p q = refl
    loops_decide never None (Some steps) p q =
        absurd (never start q.to (moves_of steps) p (steps_lead tells keys start q.to steps q.are) q.loops)
    loops_decide never (Some steps) None p q =
        absurd (never start p.to (moves_of steps) q (steps_lead tells keys start p.to steps p.are) p.loops)
    loops_decide never (Some ones) (Some others) p q =
        ap Some (steps_decide start p.to q.to ones others named p.are q.are
        (both_soonest sooner (moves_of ones) (moves_of others)
        (p.soonest (moves_of others) q.to (steps_lead tells keys start q.to others q.are) q.loops)
        (q.soonest (moves_of ones) p.to (steps_lead tells keys start p.to ones p.are) p.loops)))

    stuck_decides : (one other : Bool) → MatchBool one (IsStuck keys start) (AllCanRest keys start)
        → MatchBool other (IsStuck keys start) (AllCanRest keys start) → one ≡ other
    stuck_decides true true p q = refl
    stuck_decides false false p q = refl
    stuck_decides true false p q = absurd (p.never (q p.moves p.there p.leads))
    stuck_decides false true p q = absurd (q.never (p q.moves q.there q.leads))

-- ---- how many states there are
module _ (keys : Keys) (start : OrdersState) where
  -- states that stand in a list once are at most those of a list that has them
  pub at_most : (near far : Option ℕ) (ones others : List OrdersState)
      → ((state : OrdersState) → IsReached keys start near state → IsReached keys start far state)
      → AreReached keys start near ones → HasReached keys start far others → length ones ≤ length others
  at_most near far ones others on are has =
      items_at_most same_state same_equivalence same_is ones others are.once (λ k state at.
      let there = has state (on state (are.each k state at)) in (there.place, there.at))

  reached_more : (near far : ℕ) → near ≤ far → (state : OrdersState) → IsReached keys start (Some near) state
      → IsReached keys start (Some far) state
  reached_more near far l state is =
      record { moves = is.moves; leads = is.leads; near = let n = is.near in omega (arith, l, n) }

  reached_any : (near : Option ℕ) (state : OrdersState) → IsReached keys start near state
      → IsReached keys start None state
  reached_any near state is = record { moves = is.moves; leads = is.leads; near = tt }

  pub states_decide : (one other : ℕ) → HasStates keys start one → HasStates keys start other → one ≡ other
  states_decide one other p q =
      let up = at_most None None p.states q.states (λ s is. is) p.reached q.all in
      let down = at_most None None q.states p.states (λ s is. is) q.reached p.all in
      omega (arith, up, down, p.is, q.is)

  cut_not_less : (most one other : ℕ) → IsCutAt keys start most one → IsCutAt keys start most other → one < other → ⊥
  cut_not_less most one other p q l =
      let many = at_most (Some (one + 1))
      (Some other) p.more q.near (reached_more (one + 1) other (omega (arith, l))) p.reached q.all in
      omega (arith, many, p.many, q.few)

  pub cuts_decide : (most one other : ℕ) → IsCutAt keys start most one → IsCutAt keys start most other → one ≡ other
  cuts_decide most one other p q = elim (cases_order one other) [
    | inl e ↦ e
    | inr (inl l) ↦ absurd (cut_not_less most one other p q l)
    | inr (inr l) ↦ absurd (cut_not_less most other one q p l)
  ]

  pub not_both : (most states moves : ℕ) → HasStates keys start states → states ≤ most → IsCutAt keys start most moves
      → ⊥
  not_both most states moves p few q =
      let many = at_most (Some (moves + 1)) None q.more p.states (reached_any (Some (moves + 1))) q.reached p.all in
      omega (arith, many, few, q.many, p.is)

-- ---- the whole
pub reports_decide : (Shows : RegionState → Lines → Type 0) (tells : Telling) → MovesDecide → TurnsDecide
    → TurnsKeepToTheirTask → KeysKeepToTheirTerminal → SoonerOrders
    → (keys : Keys) → BoundedNeverLoop (Moves keys) → ReportsDecide Shows tells keys
reports_decide Shows tells decide turns turned keyed sooner keys never region edf most one other named (inl p) (inl q) =
    let start = begun region in
    p.is
    ∙ ap (λ n. whole_line keys n (length p.outcomes) ++ outcomes_lines region keys.lines edf 1 p.outcomes
    ++ loop_lines region keys.lines edf p.loop ++ stuck_line p.is_stuck)
    (states_decide keys start p.states q.states p.count q.count)
    ∙ ap (λ (os : List Outcome). whole_line keys q.states (length os) ++ outcomes_lines region keys.lines edf 1 os
    ++ loop_lines region keys.lines edf p.loop ++ stuck_line p.is_stuck)
    (outcomes_decide decide turns turned keyed tells keys sooner start named Shows None p.outcomes q.outcomes p.are q.are)
    ∙ ap (λ (l : Option (List Step)). whole_line keys q.states (length q.outcomes)
    ++ outcomes_lines region keys.lines edf 1 q.outcomes ++ loop_lines region keys.lines edf l ++ stuck_line p.is_stuck)
    (loops_decide decide turns turned keyed tells keys sooner start named never p.loop q.loop p.may_loop q.may_loop)
    ∙ ap (λ b. whole_line keys q.states (length q.outcomes) ++ outcomes_lines region keys.lines edf 1 q.outcomes
    ++ loop_lines region keys.lines edf q.loop ++ stuck_line b)
    (stuck_decides decide turns turned keyed tells keys sooner start named p.is_stuck q.is_stuck p.may_stick q.may_stick)
    ∙ sym q.is
reports_decide Shows tells decide turns turned keyed sooner keys never region edf most one other named (inr p) (inr q) =
    let start = begun region in
    let moves = cuts_decide keys start most p.moves q.moves p.cut q.cut in
    p.is
    ∙ ap (λ (os : List Outcome). cut_line keys most p.moves ++ outcomes_lines region keys.lines edf 1 os)
    (outcomes_decide decide turns turned keyed tells keys sooner start named Shows (Some q.moves) p.outcomes q.outcomes
    (subst (λ m. AreOutcomes Shows tells keys start (Some m) p.outcomes) moves p.are) q.are)
    ∙ ap (λ m. cut_line keys most m ++ outcomes_lines region keys.lines edf 1 q.outcomes) moves
    ∙ sym q.is
reports_decide Shows tells decide turns turned keyed sooner keys never region edf most one other named (inl p) (inr q) =
    absurd (not_both keys (begun region) most p.states q.moves p.count p.few q.cut)
reports_decide Shows tells decide turns turned keyed sooner keys never region edf most one other named (inr p) (inl q) =
    absurd (not_both keys (begun region) most q.states p.moves q.count q.few p.cut)
