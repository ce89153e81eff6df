-- What follows of moves.
use Rattle.std.specs.Prelude.{◌≡◌, ◌⊎◌, ℕ, Bool, true, false, List, [], ◌∷◌, Option, Some, None, filter, length, slice_get}
use Rattle.std.specs.List.{AllByRecursion}
use Rattle.cx_region.specs.Events.{Run}
use Rattle.cx_region.specs.State.{RegionState}
use Rattle.cx_region.specs.declared.replies.Event.{Event}
use Rattle.cx_region.specs.declared.replies.Event.TheVariants as event
use Rattle.cx_region.specs.declared.replies.Reply.{Reply}
use Rattle.cx_orders.specs.Laws.{IsOrder}
use Rattle.cx_orders.specs.declared.states.KeyLine.{KeyLine}
use Rattle.cx_search.specs.Moves.{Leads}
use Rattle.cx_choices.specs.Moves.{Chooses, Goes}
use Rattle.cx_choices.specs.Settling.{IsAtRest, Settles, most_turns}
use Rattle.cx_choices.specs.declared.states.ChoicesState.{ChoicesState}
use Rattle.cx_choices.specs.declared.states.Passage.{Passage}
use Rattle.cx_choices.specs.declared.states.TurnMade.{TurnMade}

-- a region settles by one list of turns, to one region
abbrev pub SettlingDecides : Type 0
SettlingDecides = (most : ℕ) (from one other : RegionState) (made others : List TurnMade)
    → Settles most from made one → Settles most from others other → (made ≡ others) × (one ≡ other)

-- one move of one region has one passage
abbrev pub PassagesDecide : Type 0
PassagesDecide =
    (choices : List KeyLine) (one_number : Option ℕ) (from : RegionState) (number : ℕ) (one other : Passage)
    → Chooses choices one_number from number one → Chooses choices one_number from number other → one ≡ other

-- a move leads to one state
abbrev pub MovesDecide : Type 0
MovesDecide =
    (choices : List KeyLine) (one_number : Option ℕ) (from one other : ChoicesState) (number : ℕ)
    → Goes choices one_number from number one → Goes choices one_number from number other → one ≡ other

-- a move leaves the region at rest, or as many turns were made as may be
abbrev pub MovesComeToRest : Type 0
MovesComeToRest =
    (choices : List KeyLine) (one_number : Option ℕ) (from : RegionState) (number : ℕ) (passage : Passage)
    → Chooses choices one_number from number passage → IsAtRest passage.after ⊎ (length passage.made ≡ most_turns)

-- a key, of turns and keys
abbrev pub is_key : Event → Bool
is_key (event.Key name aid bytes) = true
is_key _ = false

-- the choices with these numbers, as keys of a run
abbrev pub with_key : Option KeyLine → List Event → List Event
with_key None events = events
with_key (Some key) events = event.Key key.name key.aid key.bytes ∷ events

abbrev pub keys_chosen : List KeyLine → List ℕ → List Event
keys_chosen choices [] = []
keys_chosen choices (number ∷ numbers) = with_key (slice_get choices number) (keys_chosen choices numbers)

-- turns and keys, the keys being those, one after another lead the region from a state to a state
pub record IsRunOf (keys : List Event) (from to : RegionState) : Type 0 where
  pub events : List Event
  pub replies : List Reply
  pub orders : AllByRecursion IsOrder events
  pub chosen : filter is_key events ≡ keys
  pub run : Run from events replies to

-- without one number, where a list of moves leads, a run of its keys and of turns does
abbrev pub ChoicesAreRuns : Type 0
ChoicesAreRuns = (choices : List KeyLine) (from to : ChoicesState) (moves : List ℕ)
    → Leads (Goes choices None) from moves to → IsRunOf (keys_chosen choices moves) from.region to.region
