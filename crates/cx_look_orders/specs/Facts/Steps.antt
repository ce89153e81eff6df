-- The step of a move.
use Rattle.std.proofs.Common.{◌≡◌, ℕ, ◌+◌, ◌/◌, ◌<◌, List, length, Bool, true, false, Option, Some, None, inl, inr, ap, refl, sym, subst, ◌∙◌, arith}
use Rattle.std.specs.Prelude.{◌==◌, if◌then◌else◌, get_or, slice_get, slice_set, MatchOption}
use Rattle.std.specs.Option.{option_and_then}
use Rattle.std.proofs.lemmas.Bool.{eq-eqb, eqb-true}
use Rattle.std.proofs.lemmas.List.{get_or-set_same}
use Rattle.std.proofs.lemmas.Option.{get_or_from_slice_get, same_Some, slice_get_within}
use Rattle.cx_region.specs.State.{TerminalState}
use Rattle.cx_region.specs.Turn.{TakesTurn}
use Rattle.cx_region_laws.specs.Laws.Regions.{TurnsDecide}
use Rattle.cx_orders.specs.Moves.{KeyMoves, Moves, TurnMoves, key_number, turn_number}
use Rattle.cx_orders.specs.declared.states.Keys.{Keys}
use Rattle.cx_orders.specs.declared.states.OrdersState.{OrdersState}
use Rattle.cx_look_orders.specs.Parts.Ways.{IsTold, came_between}
use Rattle.cx_look_steps.specs.Steps.{IsStep, Telling, TurnIsTold, move_number}
use Rattle.cx_look_steps.specs.declared.steps.Step.{Step}

same_number : (n : ℕ) → (n == n) ≡ true
same_number n = eq-eqb n n refl

not_true : (b : Bool) → (b ≡ true → ⊥) → b ≡ false
not_true true never = absurd (never refl)
not_true false never = refl

more_not : (n : ℕ) → (n + 1 == n) ≡ false
more_not n = not_true (n + 1 == n) (λ is. let e = eqb-true (n + 1) n is in omega (arith, e))

set_there : (xs : List ℕ) (i n d : ℕ) → i < length xs → get_or (slice_set xs i n) i d ≡ n
set_there xs i n d l = get_or-set_same xs i n d l

-- how many keys had come, where none came, and where one did
none_between : (before : List ℕ) (number came : ℕ) → slice_get before number ≡ Some came
    → came_between before before number ≡ None
none_between before number came is =
    ap (λ o. option_and_then (λ (c : ℕ). if get_or before number 0 == c then None else Some c) o) is
    ∙ ap (λ n. if n == came then None else Some came) (get_or_from_slice_get before number came 0 is)
    ∙ ap (λ b. if b then None else Some came) (same_number came)

one_between : (before : List ℕ) (number came : ℕ) → slice_get before number ≡ Some came
    → came_between before (slice_set before number (came + 1)) number ≡ Some came
one_between before number came is =
    ap (λ o. option_and_then
    (λ (c : ℕ). if get_or (slice_set before number (came + 1)) number 0 == c then None else Some c) o) is
    ∙ ap (λ n. if n == came then None else Some came)
    (set_there before number (came + 1) 0 (slice_get_within before number came is))
    ∙ ap (λ b. if b then None else Some came) (more_not came)

-- the terminal of a move is half of its number
abbrev pub step_between : OrdersState → ℕ → OrdersState → Option (List ℕ) → Step
step_between from move to told =
    record { number = move / 2; key = came_between from.come to.come (move / 2); told = told }

-- what is told of that step
abbrev pub IsToldBetween : Telling → OrdersState → ℕ → OrdersState → Option (List ℕ) → Type 0
IsToldBetween tells from move to told = IsTold tells from (move / 2) (came_between from.come to.come (move / 2)) told

half_turn : (number : ℕ) → turn_number number / 2 ≡ number
half_turn number = omega arith

half_key : (number : ℕ) → key_number number / 2 ≡ number
half_key number = omega arith

-- a step's terminal is that of its number
half_move : (number : ℕ) (key : Option ℕ) (told : Option (List ℕ))
    → move_number (record { number = number; key = key; told = told }) / 2 ≡ number
half_move number None told = half_turn number
half_move number (Some came) told = half_key number

pub half_of_step : (step : Step) → move_number step / 2 ≡ step.number
half_of_step step = half_move step.number step.key step.told

module _ (tells : Telling) (keys : Keys) where
  -- a step that is a move of that number
  record Steps (from : OrdersState) (move : ℕ) (to : OrdersState) (step : Step) : Type 0 where
    is : IsStep tells keys from step to
    numbered : move_number step ≡ move

  step_by_turn : (from to : OrdersState) (number : ℕ) (name : List ℕ) (terminal : TerminalState) (came : ℕ)
      → slice_get from.region.terminals number ≡ Some (name, terminal) → slice_get from.come number ≡ Some came
      → (told : Option (List ℕ)) → IsTold tells from number (came_between from.come to.come number) told
      → TurnMoves from number name to
      → Steps from (turn_number number) to
      (record { number = number; key = came_between from.come to.come number; told = told })
  step_by_turn from to number name terminal came at come told is t =
      let none : came_between from.come to.come number ≡ None =
      ap (λ after. came_between from.come after number) t.come ∙ none_between from.come number came come in
      let step : Step = record { number = number; key = None; told = told } in
      let it_is = subst (λ k. IsTold tells from number k told) none is name terminal t.reply to.region at t.takes in
      let it : Steps from (turn_number number) to step = record {
        is = record {
          name = name;
          terminal = terminal;
          at = at;
          came = came;
          come = come;
          move = record { turn = t; is = it_is };
        };
        numbered = refl;
      } in
      subst (λ k. Steps from (turn_number number) to (record { number = number; key = k; told = told })) (sym none) it

  step_by_key : (from to : OrdersState) (number : ℕ) (name : List ℕ) (terminal : TerminalState) (came : ℕ)
      → slice_get from.region.terminals number ≡ Some (name, terminal) → slice_get from.come number ≡ Some came
      → (told : Option (List ℕ)) → IsTold tells from number (came_between from.come to.come number) told
      → KeyMoves keys from number name terminal came to
      → Steps from (key_number number) to
      (record { number = number; key = came_between from.come to.come number; told = told })
  step_by_key from to number name terminal came at come told is k =
      let some : came_between from.come to.come number ≡ Some came =
      ap (λ after. came_between from.come after number) k.comes.come ∙ one_between from.come number came come in
      let step : Step = record { number = number; key = Some came; told = told } in
      let silent = subst (λ k. IsTold tells from number k told) some is in
      let it : Steps from (key_number number) to step = record {
        is = record {
          name = name;
          terminal = terminal;
          at = at;
          came = came;
          come = come;
          move = (refl, k, silent);
        };
        numbered = refl;
      } in
      subst (λ k. Steps from (key_number number) to (record { number = number; key = k; told = told })) (sym some) it

  at_half : (from to : OrdersState) (move number : ℕ) (told : Option (List ℕ)) → number ≡ move / 2
      → Steps from move to (record { number = number; key = came_between from.come to.come number; told = told })
      → Steps from move to (step_between from move to told)
  at_half from to move number told e it =
      subst (λ n. Steps from move to (record { number = n; key = came_between from.come to.come n; told = told })) e it

  told_at : (from to : OrdersState) (told : Option (List ℕ)) (one other : ℕ) → one ≡ other
      → IsTold tells from one (came_between from.come to.come one) told
      → IsTold tells from other (came_between from.come to.come other) told
  told_at from to told one other e is =
      subst (λ n. IsTold tells from n (came_between from.come to.come n) told) e is

  step_of : (from to : OrdersState) (move : ℕ) (told : Option (List ℕ)) → IsToldBetween tells from move to told
      → Moves keys from move to → Steps from move to (step_between from move to told)
  step_of from to move told is m = elim m.by [
    | inl t ↦
        let half : m.number ≡ move / 2 = sym (half_turn m.number) ∙ ap (λ n. n / 2) (sym t.0) in
        at_half from to move m.number told half
        (subst
        (λ n. Steps from n to (record { number = m.number; key = came_between from.come to.come m.number; told = told }))
        (sym t.0)
        (step_by_turn from to m.number m.name m.terminal m.came m.at m.come told
        (told_at from to told (move / 2) m.number (sym half) is) t.1))
    | inr k ↦
        let half : m.number ≡ move / 2 = sym (half_key m.number) ∙ ap (λ n. n / 2) (sym k.0) in
        at_half from to move m.number told half
        (subst
        (λ n. Steps from n to (record { number = m.number; key = came_between from.come to.come m.number; told = told }))
        (sym k.0)
        (step_by_key from to m.number m.name m.terminal m.came m.at m.come told
        (told_at from to told (move / 2) m.number (sym half) is) k.1))
  ]

  pub step_is : (from to : OrdersState) (move : ℕ) (told : Option (List ℕ)) → IsToldBetween tells from move to told
      → Moves keys from move to → IsStep tells keys from (step_between from move to told) to
  step_is from to move told is m = (step_of from to move told is m).is

  pub step_numbered : (from to : OrdersState) (move : ℕ) (told : Option (List ℕ))
      → IsToldBetween tells from move to told → Moves keys from move to
      → move_number (step_between from move to told) ≡ move
  step_numbered from to move told is m = (step_of from to move told is m).numbered

  -- which step it is, is seen by the keys that came
  key_by : (from to : OrdersState) (number : ℕ) (name : List ℕ) (terminal : TerminalState) (came : ℕ) (key : Option ℕ)
      (told : Option (List ℕ)) → slice_get from.come number ≡ Some came
      → MatchOption key (TurnIsTold tells from number name told to)
      (λ before. (before ≡ came) × KeyMoves keys from number name terminal came to × (told ≡ None))
      → key ≡ came_between from.come to.come number
  key_by from to number name terminal came None told come t =
      sym (ap (λ after. came_between from.come after number) t.turn.come ∙ none_between from.come number came come)
  key_by from to number name terminal came (Some before) told come k =
      ap Some k.0
      ∙ sym (ap (λ after. came_between from.come after number) k.1.comes.come
      ∙ one_between from.come number came come)

  pub key_of_step : (from to : OrdersState) (step : Step) → IsStep tells keys from step to
      → step.key ≡ came_between from.come to.come step.number
  key_of_step from to step is =
      key_by from to step.number is.name is.terminal is.came step.key step.told is.come is.move

  -- so is what is told of it, where the replies of turns are determined
  module _ (turns : TurnsDecide) where
    told_by : (from to there : OrdersState) (number : ℕ) (name other : List ℕ) (terminal second : TerminalState)
        (came later : ℕ) (key : Option ℕ) (told too : Option (List ℕ)) → name ≡ other
        → MatchOption key (TurnIsTold tells from number name told to)
        (λ before. (before ≡ came) × KeyMoves keys from number name terminal came to × (told ≡ None))
        → MatchOption key (TurnIsTold tells from number other too there)
        (λ before. (before ≡ later) × KeyMoves keys from number other second later there × (too ≡ None))
        → told ≡ too
    told_by from to there number name other terminal second came later None told too e one two =
        let takes = subst (λ n. TakesTurn from.region n two.turn.reply there.region) (sym e) two.turn.takes in
        let same = (turns from.region name one.turn.reply two.turn.reply to.region there.region one.turn.takes takes).0 in
        one.is ∙ ap (λ r. tells from.region name r) same ∙ ap (λ n. tells from.region n two.turn.reply) e ∙ sym two.is
    told_by from to there number name other terminal second came later (Some before) told too e one two =
        one.2 ∙ sym two.2

    pub told_of_step : (from to there : OrdersState) (one other : Step) → one.number ≡ other.number
        → one.key ≡ other.key → IsStep tells keys from one to → IsStep tells keys from other there
        → one.told ≡ other.told
    told_of_step from to there one other number key is too =
        let name : is.name ≡ too.name =
        ap (λ (entry : List ℕ × TerminalState). entry.0)
        (same_Some (is.name, is.terminal) (too.name, too.terminal)
        (sym is.at ∙ ap (λ n. slice_get from.region.terminals n) number ∙ too.at)) in
        told_by from to there one.number is.name too.name is.terminal too.terminal is.came too.came one.key one.told
        other.told name is.move
        (subst
        (λ k. MatchOption k (TurnIsTold tells from one.number too.name other.told there)
        (λ before. (before ≡ too.came) × KeyMoves keys from one.number too.name too.terminal too.came there
        × (other.told ≡ None)))
        (sym key)
        (subst
        (λ n. MatchOption other.key (TurnIsTold tells from n too.name other.told there)
        (λ before. (before ≡ too.came) × KeyMoves keys from n too.name too.terminal too.came there
        × (other.told ≡ None)))
        (sym number) too.move))
