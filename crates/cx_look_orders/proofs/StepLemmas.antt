-- The steps of a list of moves.
use Rattle.std.proofs.Common.{◌≡◌, ℕ, ◌+◌, ◌/◌, ◌≤◌, suc, List, [], ◌∷◌, ◌++◌, length, drop, true, false, true≢false, is_some, Option, Some, None, ap, refl, sym, subst, ◌∙◌, append_assoc, append-nil, add-one}
use Rattle.std.specs.Prelude.{slice_get}
use Rattle.cx_search.specs.Moves.{GoesOnly, GoesTo, IsFirst, Leads}
use Rattle.cx_orders.specs.Moves.{Moves}
use Rattle.cx_orders.specs.declared.states.Keys.{Keys}
use Rattle.cx_orders.specs.declared.states.OrdersState.{OrdersState}
use Rattle.cx_look_orders.specs.Parts.Ways.{AreFirstSteps, AreStepsOf, IsStepBetween, IsTold, came_between}
use Rattle.cx_look_steps.specs.Steps.{AreSteps, IsStep, Telling, move_number, moves_of}
use Rattle.cx_look_steps.specs.declared.steps.Step.{Step}
use Rattle.std.proofs.lemmas.List.{drop_all}
use Rattle.cx_look_steps.specs.Facts.Lists.{drop_item, drop_none}
use Rattle.cx_look_orders.specs.Facts.Steps.{IsToldBetween, step_between, step_is, step_numbered}

-- ---- what is told of a key, and of a turn
pub told_some : (tells : Telling) (from : OrdersState) (number : ℕ) (key : Option ℕ) → is_some key ≡ true → IsTold tells from number key None
told_some tells from number None is = absurd (true≢false (sym is))
told_some tells from number (Some came) is = refl

pub told_none : (tells : Telling) (from : OrdersState) (number : ℕ) (key : Option ℕ) (told : Option (List ℕ)) → is_some key ≡ false
    → IsTold tells from number None told → IsTold tells from number key told
told_none tells from number None told is it = it
told_none tells from number (Some came) told is it = absurd (true≢false is)

module _ (tells : Telling) (keys : Keys) where
  -- ---- steps, and one more
  steps_on : (from s t : OrdersState) (steps : List Step) (step : Step) → AreSteps tells keys from steps s → IsStep tells keys s step t → AreSteps tells keys from (steps ++ step ∷ []) t
  unfolding AreSteps
  steps_on from s t [] step are is = record { between = t; is = subst (λ x. IsStep tells keys x step t) are is; rest = refl }
  steps_on from s t (first ∷ steps) step are is = record { between = are.between; is = are.is; rest = steps_on are.between s t steps step are.rest is }

  moves_on : (steps : List Step) (step : Step) → moves_of (steps ++ step ∷ []) ≡ moves_of steps ++ move_number step ∷ []
  moves_on [] step = refl
  moves_on (first ∷ steps) step = ap (λ ms. move_number first ∷ ms) (moves_on steps step)

  -- the first steps of a list of moves
  pub record Walks (start : OrdersState) (moves : List ℕ) (to : OrdersState) (done : ℕ) (at : OrdersState) (steps : List Step) : Type 0 where
    pub are : AreSteps tells keys start steps at
    pub all : moves ≡ moves_of steps ++ drop done moves
    pub rest : Leads (Moves keys) at (drop done moves) to

  pub walk_begins : (start : OrdersState) (moves : List ℕ) (to : OrdersState) → Leads (Moves keys) start moves to → Walks start moves to 0 start []
  unfolding AreSteps
  walk_begins start moves to leads = record {
    are = refl;
    all = sym (drop_none moves);
    rest = subst (λ ms. Leads (Moves keys) start ms to) (sym (drop_none moves)) leads;
  }

  -- the next move can be made
  leads_next : (from to : OrdersState) (number : ℕ) (moves : List ℕ) → Leads (Moves keys) from (number ∷ moves) to
      → (between : OrdersState) × (Moves keys from number between × Leads (Moves keys) between moves to)
  unfolding Leads
  leads_next from to number moves leads = (leads.between, (leads.goes, leads.rest))

  leads_none : (from to : OrdersState) → Leads (Moves keys) from [] to → to ≡ from
  unfolding Leads
  leads_none from to leads = leads

  goes_only : (from to : OrdersState) (number : ℕ) → GoesTo (Moves keys) from number (Some to) → GoesOnly (Moves keys) from number to
  unfolding GoesTo
  goes_only from to number goes = goes

  goes_never : (from to : OrdersState) (number : ℕ) → GoesTo (Moves keys) from number None → Moves keys from number to → ⊥
  unfolding GoesTo
  goes_never from to number never = never to

  next_of : (start : OrdersState) (moves : List ℕ) (to : OrdersState) (done : ℕ) (at : OrdersState) (steps : List Step) (number : ℕ) → Walks start moves to done at steps
      → slice_get moves done ≡ Some number → (between : OrdersState) × (Moves keys at number between × Leads (Moves keys) between (drop (suc done) moves) to)
  next_of start moves to done at steps number w is =
      leads_next at to number (drop (suc done) moves) (subst (λ ms. Leads (Moves keys) at ms to) (drop_item moves done number is) w.rest)

  pub walk_stops : (start : OrdersState) (moves : List ℕ) (to : OrdersState) (done : ℕ) (at : OrdersState) (steps : List Step) (number : ℕ) → Walks start moves to done at steps
      → slice_get moves done ≡ Some number → GoesTo (Moves keys) at number None → ⊥
  walk_stops start moves to done at steps number w is never =
      let next = next_of start moves to done at steps number w is in goes_never at next.0 number never next.1.0

  -- the step of a move that was made
  is_between : (from to : OrdersState) (move : ℕ) (step : Step) → IsStepBetween tells from move to step → step_between from move to step.told ≡ step
  is_between from to move step b = λ i. record { number = sym b.number i; key = sym b.key i; told = step.told }

  told_between : (from to : OrdersState) (move : ℕ) (step : Step) → IsStepBetween tells from move to step → IsToldBetween tells from move to step.told
  told_between from to move step b =
      subst (λ n. IsTold tells from n (came_between from.come to.come (move / 2)) step.told) b.number
      (subst (λ k. IsTold tells from step.number k step.told) b.key b.told)

  step_made : (from to : OrdersState) (move : ℕ) (step : Step) → IsStepBetween tells from move to step → Moves keys from move to → IsStep tells keys from step to
  step_made from to move step b m =
      subst (λ s. IsStep tells keys from s to) (is_between from to move step b) (step_is tells keys from to move step.told (told_between from to move step b) m)

  number_made : (from to : OrdersState) (move : ℕ) (step : Step) → IsStepBetween tells from move to step → Moves keys from move to → move_number step ≡ move
  number_made from to move step b m =
      ap (λ (s : Step). move_number s) (sym (is_between from to move step b)) ∙ step_numbered tells keys from to move step.told (told_between from to move step b) m

  pub walk_on : (start : OrdersState) (moves : List ℕ) (to : OrdersState) (done : ℕ) (at : OrdersState) (steps : List Step) (number : ℕ) (next : OrdersState)
      (step : Step) → IsStepBetween tells at number next step
      → Walks start moves to done at steps → slice_get moves done ≡ Some number → GoesTo (Moves keys) at number (Some next)
      → Walks start moves to (done + 1) next (steps ++ step ∷ [])
  walk_on start moves to done at steps number next step made w is goes =
      let only = goes_only at next number goes in
      let by = next_of start moves to done at steps number w is in
      let more : suc done ≡ done + 1 = sym (add-one done) in
      let rest = drop (done + 1) moves in
      let first : drop done moves ≡ number ∷ rest = drop_item moves done number is ∙ ap (λ n. number ∷ drop n moves) more in
      record {
        are = steps_on start at next steps step w.are (step_made at next number step made only.goes);
        all = w.all ∙ ap (λ ms. moves_of steps ++ ms) first ∙ sym (append_assoc (moves_of steps) (number ∷ []) rest)
            ∙ ap (λ n. (moves_of steps ++ n ∷ []) ++ rest) (sym (number_made at next number step made only.goes))
            ∙ ap (λ ms. ms ++ rest) (sym (moves_on steps step));
        rest = subst (λ n. Leads (Moves keys) next (drop n moves) to) more
            (subst (λ s. Leads (Moves keys) s (drop (suc done) moves) to) (only.only by.0 by.1.0) by.1.1);
      }

  pub walk_pushed : (start : OrdersState) (moves : List ℕ) (to : OrdersState) (done : ℕ) (at : OrdersState) (steps after : List Step) (number : ℕ) (next : OrdersState)
      (step : Step) → IsStepBetween tells at number next step
      → Walks start moves to done at steps → slice_get moves done ≡ Some number → GoesTo (Moves keys) at number (Some next)
      → after ≡ steps ++ step ∷ [] → Walks start moves to (done + 1) next after
  walk_pushed start moves to done at steps after number next step made w is goes pushed =
      subst (Walks start moves to (done + 1) next) (sym pushed) (walk_on start moves to done at steps number next step made w is goes)

  pub walk_ends : (start : OrdersState) (moves : List ℕ) (to : OrdersState) (done : ℕ) (at : OrdersState) (steps : List Step) → Walks start moves to done at steps
      → length moves ≤ done → AreStepsOf tells keys start moves to steps
  walk_ends start moves to done at steps w l =
      let none = drop_all done moves l in
      record {
        are = subst (λ s. AreSteps tells keys start steps s) (sym (leads_none at to (subst (λ ms. Leads (Moves keys) at ms to) none w.rest))) w.are;
        of = sym (w.all ∙ ap (λ ms. moves_of steps ++ ms) none ∙ append-nil (moves_of steps));
      }

  -- the steps of the soonest list
  pub first_steps : (start to : OrdersState) (moves : List ℕ) (steps : List Step) → IsFirst (Moves keys) start moves to → AreStepsOf tells keys start moves to steps
      → AreFirstSteps tells keys start to steps
  first_steps start to moves steps first are = record {
    are = are.are;
    first = subst (λ ms. IsFirst (Moves keys) start ms to) (sym are.of) first;
  }
