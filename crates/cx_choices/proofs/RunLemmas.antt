-- Moves are runs of the region.
use Rattle.std.proofs.Common.{List, [], ◌∷◌, refl, ap, sym, subst}
use Rattle.cx_search.specs.Moves.{Leads}
use Rattle.cx_region.specs.Events.{Applies, Run}
use Rattle.cx_region.specs.State.{RegionState}
use Rattle.cx_region.specs.declared.replies.Event.{Event}
use Rattle.cx_region.specs.declared.replies.Event.TheVariants as event
use Rattle.cx_region.specs.declared.replies.Reply.TheVariants as reply
use Rattle.cx_orders.specs.declared.states.KeyLine.{KeyLine}
use Rattle.cx_choices.specs.Laws.{ChoicesAreRuns, IsRunOf, keys_chosen, with_key}
use Rattle.cx_choices.specs.Moves.{Presses}
use Rattle.cx_choices.specs.Settling.{MakesTurns}
use Rattle.cx_choices.specs.declared.states.ChoicesState.{ChoicesState}
use Rattle.cx_choices.specs.declared.states.Passage.{Passage}
use Rattle.cx_choices.specs.declared.states.TurnMade.{TurnMade}

-- turns, and then a run
after_turns : (from : RegionState) (made : List TurnMade) (between to : RegionState) (keys : List Event) → MakesTurns from made between
    → IsRunOf keys between to → IsRunOf keys from to
unfolding MakesTurns Run Applies
after_turns from [] between to keys is rest = subst (λ r. IsRunOf keys r to) is rest
after_turns from (turn ∷ made) between to keys is rest =
    let more = after_turns is.between made between to keys is.rest rest in
    record {
      events = event.Turn is.name ∷ more.events;
      replies = reply.Turn turn.reply ∷ more.replies;
      orders = (tt, more.orders);
      chosen = more.chosen;
      run = (is.between, is.takes, more.run);
    }

-- a key with its turns, and then a run
after_key : (choice : KeyLine) (from to : RegionState) (passage : Passage) (keys : List Event) → Presses choice from passage
    → IsRunOf keys passage.after to → IsRunOf (event.Key choice.name choice.aid choice.bytes ∷ keys) from to
unfolding Run Applies
after_key choice from to passage keys is rest =
    let more = after_turns is.between passage.made passage.after to keys is.settles.turns rest in
    record {
      events = event.Key choice.name choice.aid choice.bytes ∷ more.events;
      replies = reply.Key passage.reply ∷ more.replies;
      orders = (tt, more.orders);
      chosen = ap (λ es. event.Key choice.name choice.aid choice.bytes ∷ es) more.chosen;
      run = (is.between, is.takes, more.run);
    }

pub choices_are_runs : ChoicesAreRuns
unfolding Leads Run
choices_are_runs choices from to [] leads = record {
  events = [];
  replies = [];
  orders = tt;
  chosen = refl;
  run = ap (λ (s : ChoicesState). s.region) leads;
}
choices_are_runs choices from to (number ∷ moves) leads =
    let goes = leads.goes in
    let chooses = goes.chooses in
    let rest = subst (λ r. IsRunOf (keys_chosen choices moves) r to.region) goes.leads (choices_are_runs choices leads.between to moves leads.rest) in
    subst (λ key. IsRunOf (with_key key (keys_chosen choices moves)) from.region to.region) (sym chooses.is)
    (after_key chooses.choice from.region to.region goes.passage (keys_chosen choices moves) chooses.presses rest)
