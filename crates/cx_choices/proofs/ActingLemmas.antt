-- Terminals that can act, and those at which a key can be pressed.
use Rattle.std.proofs.Common.{◌≡◌, ℕ, ◌+◌, ◌<◌, ◌≤◌, Bool, List, length, Option, Some, None, true, false, true≢false, inl, inr, ap, sym, subst, ◌∙◌, arith}
use Rattle.std.specs.Prelude.{IfNone, IfSome, MatchBool, is_some, not, slice_get}
use Rattle.std.proofs.lemmas.Bool.{cases_lt}
use Rattle.std.proofs.lemmas.Option.{none-some, same_Some, slice_get_within}
use Rattle.cx_region.specs.State.{RegionState, TerminalState}
use Rattle.cx_region.specs.Tables.{terminal_of}
use Rattle.cx_look_tasks.specs.Activities.{IsActivity, is_acting}
use Rattle.cx_look_tasks.specs.Laws.{ActivitiesDecide}
use Rattle.cx_look_tasks.specs.declared.activities.Activity.{Activity}
use Rattle.cx_orders.specs.Moves.{is_ready}
use Rattle.cx_choices.specs.Moves.{IsReady}
use Rattle.cx_choices.specs.Settling.{CanAct, IsAtRest, IsFirstToAct}
use Rattle.cx_choices.specs.declared.acting.Actor.{Actor}

module _ (region : RegionState) (number : ℕ) where
  pub acts_nowhere : slice_get region.terminals number ≡ None → (name : List ℕ) → CanAct region number name → ⊥
  acts_nowhere none name can = none-some (name, can.terminal) (sym none ∙ can.at)

  pub acts_not : ActivitiesDecide → (name : List ℕ) (terminal : TerminalState) (activity : Activity) → slice_get region.terminals number ≡ Some (name, terminal)
      → IsActivity region terminal activity → is_acting activity ≡ false → (another : List ℕ) → CanAct region number another → ⊥
  acts_not once name terminal activity at is acting another can =
      let same = ap (λ (e : List ℕ × TerminalState). e.1) (same_Some (another, can.terminal) (name, terminal) (sym can.at ∙ at)) in
      let e = once region terminal can.activity activity (subst (λ t. IsActivity region t can.activity) same can.is) is in
      true≢false (sym can.acts ∙ ap is_acting e ∙ acting)

module _ (region : RegionState) (name : List ℕ) where
  pub ready_nowhere : terminal_of region name ≡ None → IsReady region name → ⊥
  ready_nowhere none ready = none-some ready.terminal (sym none ∙ ready.there)

  pub ready_not : ActivitiesDecide → (terminal : TerminalState) (activity : Activity) → terminal_of region name ≡ Some terminal
      → IsActivity region terminal activity → is_ready activity ≡ false → IsReady region name → ⊥
  ready_not once terminal activity there is waits ready =
      let same = same_Some ready.terminal terminal (sym ready.there ∙ there) in
      let e = once region terminal ready.activity activity (subst (λ t. IsActivity region t ready.activity) same ready.is) is in
      true≢false (sym ready.ready ∙ ap is_ready e ∙ waits)

  pub ready_by : ActivitiesDecide → (terminal : TerminalState) (activity : Activity) → terminal_of region name ≡ Some terminal
      → IsActivity region terminal activity → (ready : Bool) → ready ≡ is_ready activity → MatchBool ready (IsReady region name) (IsReady region name → ⊥)
  ready_by once terminal activity there is true e =
      record { terminal = terminal; there = there; activity = activity; is = is; ready = sym e }
  ready_by once terminal activity there is false e = ready_not once terminal activity there is (sym e)

-- none of the first terminals can act
abbrev pub AreStill : RegionState → ℕ → Type 0
AreStill region many = (number : ℕ) (name : List ℕ) → number < many → CanAct region number name → ⊥

-- nor one more
pub still_on : (region : RegionState) (many : ℕ) → AreStill region many → ((name : List ℕ) → CanAct region many name → ⊥) → AreStill region (many + 1)
still_on region many still not number name below can = elim (cases_lt number many) [
  | inl less ↦ still number name less can
  | inr more ↦ let e : number ≡ many = omega (arith, below, more) in not name (subst (λ n. CanAct region n name) e can)
]

pub at_rest : (region : RegionState) (many : ℕ) → AreStill region many → length region.terminals ≤ many → IsAtRest region
at_rest region many still all number name can =
    let within = slice_get_within region.terminals number (name, can.terminal) can.at in
    still number name (omega (arith, within, all)) can

-- whether it is, by the first that can act
pub rest_by : (region : RegionState) (still : Bool) (found : Option Actor) → not still ≡ is_some found
    → IfSome found (λ (actor : Actor). IsFirstToAct region actor.number actor.name) → IfNone found (IsAtRest region)
    → MatchBool still (IsAtRest region) (IsAtRest region → ⊥)
rest_by region true None is first rest = rest
rest_by region false None is first rest = absurd (true≢false is)
rest_by region true (Some actor) is first rest = absurd (true≢false (sym is))
rest_by region false (Some actor) is first rest = λ still. still actor.number actor.name first.acts
