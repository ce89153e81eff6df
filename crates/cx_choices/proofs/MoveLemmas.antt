-- Moves, of which each has one passage.
use Rattle.std.proofs.Common.{◌≡◌, ℕ, zero, suc, ◌<◌, List, [], ◌∷◌, length, Option, Some, None, ap, sym, subst, ◌∙◌}
use Rattle.std.specs.Prelude.{slice_get, MatchOption}
use Rattle.std.specs.List.{AllByRecursion}
use Rattle.std.proofs.lemmas.Option.{none-some, same_Some, slice_get_within}
use Rattle.cx_region.specs.Attach.{input_from}
use Rattle.cx_region.specs.State.{RegionState}
use Rattle.cx_region_laws.specs.Laws.Regions.{KeysDecide, TurnsDecide}
use Rattle.cx_orders.specs.Moves.{IsFew}
use Rattle.cx_orders.specs.declared.states.KeyLine.{KeyLine}
use Rattle.cx_search.specs.Moves.{GoesTo}
use Rattle.cx_choices.specs.Laws.{MovesComeToRest, MovesDecide, PassagesDecide}
use Rattle.cx_choices.specs.Moves.{Chooses, ChoosesTo, Goes, IsReady, Presses, numbered}
use Rattle.cx_choices.specs.Settling.{CanAct, Settles, most_turns}
use Rattle.cx_choices.specs.declared.states.ChoicesState.{ChoicesState}
use Rattle.cx_choices.specs.declared.states.Passage.{Passage}
use Rattle.cx_choices.proofs.SettlingLemmas.{settling_decides}

pub counted : (choices : List KeyLine) (one_number : Option ℕ) (from to : ChoicesState) (number : ℕ) → Goes choices one_number from number to
    → number < length choices
counted choices one_number from to number goes = slice_get_within choices number goes.chooses.choice goes.chooses.is

pub few_at : (choices : List KeyLine) (number : ℕ) (choice : KeyLine) → AllByRecursion IsFew choices → slice_get choices number ≡ Some choice → IsFew choice
few_at [] number choice all is = absurd (none-some choice is)
few_at (first ∷ choices) zero choice all is = subst IsFew (same_Some first choice is) all.0
few_at (first ∷ choices) (suc number) choice all is = few_at choices number choice all.1 is

same_passages : (one other : Passage) → one.reply ≡ other.reply → one.made ≡ other.made → one.after ≡ other.after → one ≡ other
same_passages one other p q r = λ i. record { reply = p i; made = q i; after = r i }

module _ (turns : TurnsDecide) (keys : KeysDecide) where
  pub presses_decide : (choice : KeyLine) (from : RegionState) (one other : Passage) → Presses choice from one → Presses choice from other → one ≡ other
  presses_decide choice from one other is also =
      let key = keys from choice.name (input_from choice.aid choice.bytes) one.reply other.reply is.between also.between is.takes also.takes in
      let settled = settling_decides turns most_turns also.between one.after other.after one.made other.made
      (subst (λ r. Settles most_turns r one.made one.after) key.1 is.settles) also.settles in
      same_passages one other key.0 settled.0 settled.1

  pub passages_decide : PassagesDecide
  passages_decide choices one_number from number one other is also =
      let same = same_Some is.choice also.choice (sym is.is ∙ also.is) in
      presses_decide also.choice (numbered one_number from) one other (subst (λ c. Presses c (numbered one_number from) one) same is.presses) also.presses

  pub moves_decide : MovesDecide
  moves_decide choices one_number from one other number is also =
      let same = passages_decide choices one_number from.region number is.passage also.passage is.chooses also.chooses in
      let region = is.leads ∙ ap (λ (p : Passage). numbered one_number p.after) same ∙ sym also.leads in
      λ i. record { region = region i }

pub come_to_rest : MovesComeToRest
come_to_rest choices one_number from number passage is = is.presses.settles.ends

module _ (choices : List KeyLine) (one_number : Option ℕ) (from : RegionState) (number : ℕ) where
  -- a terminal can act
  pub chooses_not_yet : (actor : ℕ) (name : List ℕ) → CanAct from actor name → ChoosesTo choices one_number from number None
  unfolding ChoosesTo
  chooses_not_yet actor name acts other is = is.rest actor name acts

  -- no choice has that number
  pub chooses_none : slice_get choices number ≡ None → ChoosesTo choices one_number from number None
  unfolding ChoosesTo
  chooses_none none other is = none-some is.choice (sym none ∙ is.is)

  -- the choice is pressed, where it can be
  pub chooses_by : (choice : KeyLine) (region : RegionState) (passage : Option Passage) → ((actor : ℕ) (name : List ℕ) → CanAct from actor name → ⊥)
      → slice_get choices number ≡ Some choice → region ≡ numbered one_number from
      → MatchOption passage (IsReady region choice.name → ⊥) (Presses choice region)
      → ChoosesTo choices one_number from number passage
  unfolding ChoosesTo
  chooses_by choice region None rest is given never = λ other chooses.
      let same = same_Some chooses.choice choice (sym chooses.is ∙ is) in
      never (subst (λ r. IsReady r choice.name) (sym given)
      (subst (λ (c : KeyLine). IsReady (numbered one_number from) c.name) same chooses.presses.ready))
  chooses_by choice region (Some passage) rest is given presses =
      record { rest = rest; choice = choice; is = is; presses = subst (λ r. Presses choice r passage) given presses }

module _ (turns : TurnsDecide) (keys : KeysDecide) (choices : List KeyLine) (one_number : Option ℕ) (from : ChoicesState) (number : ℕ) where
  pub goes_nowhere : (passage : Option Passage) → ChoosesTo choices one_number from.region number passage → passage ≡ None
      → GoesTo (Goes choices one_number) from number None
  unfolding ChoosesTo GoesTo
  goes_nowhere None never is = λ to goes. never goes.passage goes.chooses
  goes_nowhere (Some passage) chooses is = absurd (none-some passage (sym is))

  goes_on : (passage : Passage) (to : ChoicesState) → Chooses choices one_number from.region number passage → to.region ≡ numbered one_number passage.after
      → GoesTo (Goes choices one_number) from number (Some to)
  unfolding GoesTo
  goes_on passage to chooses leads =
      let goes : Goes choices one_number from number to = record { passage = passage; chooses = chooses; leads = leads } in
      record { goes = goes; only = λ other also. moves_decide turns keys choices one_number from other to number also goes }

  pub goes_by : (found : Option Passage) (passage : Passage) (to : ChoicesState) → ChoosesTo choices one_number from.region number found → found ≡ Some passage
      → to.region ≡ numbered one_number passage.after → GoesTo (Goes choices one_number) from number (Some to)
  unfolding ChoosesTo
  goes_by None passage to never is leads = absurd (none-some passage is)
  goes_by (Some one) passage to chooses is leads =
      goes_on passage to (subst (λ p. Chooses choices one_number from.region number p) (same_Some one passage is) chooses) leads
