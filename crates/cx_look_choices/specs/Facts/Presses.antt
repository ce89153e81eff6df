-- Presses lead as their moves do; and of one list of moves there is one list of presses.
use Rattle.std.proofs.Common.{◌≡◌, ℕ, List, [], ◌∷◌, drop, Option, ap, refl, sym, subst, ◌∙◌}
use Rattle.std.specs.Prelude.{slice_get}
use Rattle.std.proofs.lemmas.Option.{none-some, same_Some}
use Rattle.cx_search.specs.Moves.{Leads}
use Rattle.cx_orders.specs.declared.states.KeyLine.{KeyLine}
use Rattle.cx_choices.specs.Laws.{PassagesDecide}
use Rattle.cx_choices.specs.Moves.{Chooses, numbered}
use Rattle.cx_choices.specs.declared.states.ChoicesState.{ChoicesState}
use Rattle.cx_choices.specs.declared.states.Passage.{Passage}
use Rattle.cx_look_choices.specs.Laws.{PressesLead}
use Rattle.cx_look_choices.specs.Presses.{ArePresses, IsPress, moves_of}
use Rattle.cx_look_choices.specs.declared.presses.Press.{Press}

pub presses_lead : PressesLead
unfolding ArePresses Leads
presses_lead choices one_number from to [] are = are
presses_lead choices one_number from to (press ∷ presses) are = record {
  between = are.between;
  goes = record { passage = are.is.passage; chooses = are.is.chooses; leads = are.is.leads };
  rest = presses_lead choices one_number are.between to presses are.rest;
}

pub same_state : (one other : ChoicesState) → one.region ≡ other.region → one ≡ other
same_state one other p = λ i. record { region = p i }

same_press : (one other : Press) → one.choice ≡ other.choice → one.made ≡ other.made → one ≡ other
same_press one other p q = λ i. record { choice = p i; made = q i }

module _ (decide : PassagesDecide) (choices : List KeyLine) (one_number : Option ℕ) where
  -- the press of one move is one, and leads to one state
  pub one_press : (from s t : ChoicesState) (one other : Press) → IsPress choices one_number from one s
      → IsPress choices one_number from other t → one.choice ≡ other.choice → (one ≡ other) × (s ≡ t)
  one_press from s t one other is too e =
      let same = decide choices one_number from.region other.choice is.passage too.passage
      (subst (λ n. Chooses choices one_number from.region n is.passage) e is.chooses) too.chooses in (
        same_press one other e (is.made ∙ ap (λ (p : Passage). p.made) same ∙ sym too.made),
        same_state s t (is.leads ∙ ap (λ (p : Passage). numbered one_number p.after) same ∙ sym too.leads),
      )

  -- presses lead to one state
  pub ends_decide : (from s t : ChoicesState) (presses : List Press) → ArePresses choices one_number from presses s
      → ArePresses choices one_number from presses t → s ≡ t
  unfolding ArePresses
  ends_decide from s t [] are too = are ∙ sym too
  ends_decide from s t (press ∷ presses) are too =
      let first = one_press from are.between too.between press press are.is too.is refl in
      ends_decide too.between s t presses (subst (λ x. ArePresses choices one_number x presses s) first.1 are.rest)
      too.rest

  pub presses_decide : (from s t : ChoicesState) (ones others : List Press)
      → ArePresses choices one_number from ones s → ArePresses choices one_number from others t
      → moves_of ones ≡ moves_of others → ones ≡ others
  unfolding ArePresses
  presses_decide from s t [] [] are too e = refl
  presses_decide from s t [] (other ∷ others) are too e = absurd (none-some other.choice (ap (λ ms. slice_get ms 0) e))
  presses_decide from s t (one ∷ ones) [] are too e = absurd (none-some one.choice (ap (λ ms. slice_get ms 0) (sym e)))
  presses_decide from s t (one ∷ ones) (other ∷ others) are too e =
      let number = same_Some one.choice other.choice (ap (λ ms. slice_get ms 0) e) in
      let first = one_press from are.between too.between one other are.is too.is number in
      let rest = presses_decide too.between s t ones others
      (subst (λ x. ArePresses choices one_number x ones s) first.1 are.rest) too.rest (ap (λ ms. drop 1 ms) e) in
      ap (λ z. z ∷ ones) first.0 ∙ ap (λ zs. other ∷ zs) rest
