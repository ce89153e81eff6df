-- The presses of a list of moves.
use Rattle.std.proofs.Common.{◌≡◌, ℕ, ◌+◌, ◌≤◌, suc, List, [], ◌∷◌, ◌++◌, length, drop, Option, Some, None, ap, refl, sym, subst, ◌∙◌, append_assoc, append-nil, add-one}
use Rattle.std.specs.Prelude.{slice_get}
use Rattle.std.specs.Option.{option_map_or}
use Rattle.std.proofs.lemmas.List.{drop_all}
use Rattle.std.proofs.lemmas.Option.{none-some, same_Some}
use Rattle.cx_search.specs.Moves.{IsFirst, Leads}
use Rattle.cx_region.specs.State.{RegionState}
use Rattle.cx_orders.specs.declared.states.KeyLine.{KeyLine}
use Rattle.cx_choices.specs.Laws.{MovesDecide}
use Rattle.cx_choices.specs.Moves.{Chooses, ChoosesTo, Goes}
use Rattle.cx_choices.specs.declared.states.ChoicesState.{ChoicesState}
use Rattle.cx_choices.specs.declared.states.Passage.{Passage}
use Rattle.cx_look_choices.specs.Parts.Ways.{AreFirstPresses, ArePressesOf, IsPressed}
use Rattle.cx_look_choices.specs.Presses.{ArePresses, IsPress, key_pressed, moves_of}
use Rattle.cx_look_choices.specs.declared.presses.Press.{Press}
use Rattle.cx_look_steps.specs.Facts.Lists.{drop_item, drop_none}

-- the choice with a number, as a list
pub key_none : (choices : List KeyLine) (number : ℕ) → slice_get choices number ≡ None → key_pressed choices number ≡ []
key_none choices number is = ap (λ o. option_map_or (λ (key : KeyLine). key ∷ []) o []) is

pub key_some : (choices : List KeyLine) (number : ℕ) (key : KeyLine) → slice_get choices number ≡ Some key → key_pressed choices number ≡ key ∷ []
key_some choices number key is = ap (λ o. option_map_or (λ (key : KeyLine). key ∷ []) o []) is

module _ (choices : List KeyLine) (one_number : Option ℕ) where
  pub chosen_some : (from : RegionState) (number : ℕ) (found : Option Passage) (passage : Passage) → ChoosesTo choices one_number from number found → found ≡ Some passage
      → Chooses choices one_number from number passage
  unfolding ChoosesTo
  chosen_some from number None passage never is = absurd (none-some passage is)
  chosen_some from number (Some one) passage chooses is = subst (Chooses choices one_number from number) (same_Some one passage is) chooses

  pub chosen_none : (from : RegionState) (number : ℕ) (found : Option Passage) → ChoosesTo choices one_number from number found → found ≡ None
      → (passage : Passage) → Chooses choices one_number from number passage → ⊥
  unfolding ChoosesTo
  chosen_none from number None never is = never
  chosen_none from number (Some one) chooses is = absurd (none-some one (sym is))

  -- ---- presses, and one more
  presses_on : (from s t : ChoicesState) (presses : List Press) (press : Press) → ArePresses choices one_number from presses s → IsPress choices one_number s press t
      → ArePresses choices one_number from (presses ++ press ∷ []) t
  unfolding ArePresses
  presses_on from s t [] press are is = record { between = t; is = subst (λ x. IsPress choices one_number x press t) are is; rest = refl }
  presses_on from s t (first ∷ presses) press are is = record { between = are.between; is = are.is; rest = presses_on are.between s t presses press are.rest is }

  moves_on : (presses : List Press) (press : Press) → moves_of (presses ++ press ∷ []) ≡ moves_of presses ++ press.choice ∷ []
  moves_on [] press = refl
  moves_on (first ∷ presses) press = ap (λ ms. first.choice ∷ ms) (moves_on presses press)

  -- the first presses of a list of moves
  pub record Walks (start : ChoicesState) (moves : List ℕ) (to : ChoicesState) (done : ℕ) (at : ChoicesState) (presses : List Press) : Type 0 where
    pub are : ArePresses choices one_number start presses at
    pub all : moves ≡ moves_of presses ++ drop done moves
    pub rest : Leads (Goes choices one_number) at (drop done moves) to

  pub walk_begins : (start : ChoicesState) (moves : List ℕ) (to : ChoicesState) → Leads (Goes choices one_number) start moves to → Walks start moves to 0 start []
  unfolding ArePresses
  walk_begins start moves to leads = record {
    are = refl;
    all = sym (drop_none moves);
    rest = subst (λ ms. Leads (Goes choices one_number) start ms to) (sym (drop_none moves)) leads;
  }

  -- the next move can be made
  leads_next : (from to : ChoicesState) (number : ℕ) (moves : List ℕ) → Leads (Goes choices one_number) from (number ∷ moves) to
      → (between : ChoicesState) × (Goes choices one_number from number between × Leads (Goes choices one_number) between moves to)
  unfolding Leads
  leads_next from to number moves leads = (leads.between, (leads.goes, leads.rest))

  leads_none : (from to : ChoicesState) → Leads (Goes choices one_number) from [] to → to ≡ from
  unfolding Leads
  leads_none from to leads = leads

  next_of : (start : ChoicesState) (moves : List ℕ) (to : ChoicesState) (done : ℕ) (at : ChoicesState) (presses : List Press) (number : ℕ) → Walks start moves to done at presses
      → slice_get moves done ≡ Some number → (between : ChoicesState) × (Goes choices one_number at number between × Leads (Goes choices one_number) between (drop (suc done) moves) to)
  next_of start moves to done at presses number w is =
      leads_next at to number (drop (suc done) moves) (subst (λ ms. Leads (Goes choices one_number) at ms to) (drop_item moves done number is) w.rest)

  pub walk_stops : (start : ChoicesState) (moves : List ℕ) (to : ChoicesState) (done : ℕ) (at : ChoicesState) (presses : List Press) (number : ℕ) → Walks start moves to done at presses
      → slice_get moves done ≡ Some number → ((passage : Passage) → Chooses choices one_number at.region number passage → ⊥) → ⊥
  walk_stops start moves to done at presses number w is never =
      let next = next_of start moves to done at presses number w is in never next.1.0.passage next.1.0.chooses

  pub walk_on : MovesDecide → (start : ChoicesState) (moves : List ℕ) (to : ChoicesState) (done : ℕ) (at : ChoicesState) (presses after : List Press) (number : ℕ) (press : Press)
      (next : ChoicesState) → Walks start moves to done at presses → slice_get moves done ≡ Some number → IsPressed choices one_number at number press next
      → after ≡ presses ++ press ∷ [] → Walks start moves to (done + 1) next after
  walk_on decide start moves to done at presses after number press next w is pressed added =
      let by = next_of start moves to done at presses number w is in
      let chosen = subst (λ n. Chooses choices one_number at.region n pressed.is.passage) pressed.of pressed.is.chooses in
      let goes : Goes choices one_number at number next = record { passage = pressed.is.passage; chooses = chosen; leads = pressed.is.leads } in
      let same : by.0 ≡ next = decide choices one_number at by.0 next number by.1.0 goes in
      let more : suc done ≡ done + 1 = sym (add-one done) in
      let rest = drop (done + 1) moves in
      let first : drop done moves ≡ number ∷ rest = drop_item moves done number is ∙ ap (λ n. number ∷ drop n moves) more in
      let head : moves_of presses ++ number ∷ [] ≡ moves_of (presses ++ press ∷ []) = ap (λ n. moves_of presses ++ n ∷ []) (sym pressed.of) ∙ sym (moves_on presses press) in
      subst (Walks start moves to (done + 1) next) (sym added) (record {
        are = presses_on start at next presses press w.are pressed.is;
        all = w.all ∙ ap (λ ms. moves_of presses ++ ms) first ∙ sym (append_assoc (moves_of presses) (number ∷ []) rest)
            ∙ ap (λ ms. ms ++ rest) head;
        rest = subst (λ n. Leads (Goes choices one_number) next (drop n moves) to) more
            (subst (λ s. Leads (Goes choices one_number) s (drop (suc done) moves) to) same by.1.1);
      })

  pub walk_ends : (start : ChoicesState) (moves : List ℕ) (to : ChoicesState) (done : ℕ) (at : ChoicesState) (presses : List Press) → Walks start moves to done at presses
      → length moves ≤ done → ArePressesOf choices one_number start moves to presses
  walk_ends start moves to done at presses w l =
      let none = drop_all done moves l in
      record {
        are = subst (λ s. ArePresses choices one_number start presses s) (sym (leads_none at to (subst (λ ms. Leads (Goes choices one_number) at ms to) none w.rest))) w.are;
        of = sym (w.all ∙ ap (λ ms. moves_of presses ++ ms) none ∙ append-nil (moves_of presses));
      }

  -- the presses of the soonest list
  pub first_presses : (start to : ChoicesState) (moves : List ℕ) (presses : List Press) → IsFirst (Goes choices one_number) start moves to
      → ArePressesOf choices one_number start moves to presses → AreFirstPresses choices one_number start to presses
  first_presses start to moves presses first are = record {
    are = are.are;
    first = subst (λ ms. IsFirst (Goes choices one_number) start ms to) (sym are.of) first;
  }
