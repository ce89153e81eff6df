-- What follows of orders.
use Rattle.std.specs.Prelude.{◌≡◌, ◌≢◌, ℕ, ⊤, Bool, true, false, List, [], ◌∷◌, ◌++◌, Some, filter, length, map}
use Rattle.std.specs.List.{AllByRecursion, IsDistinct}
use Rattle.std.specs.Map.{keys_of as names_of}
use Rattle.cx_ebcdic.specs.Names.{is_name}
use Rattle.cx_search.specs.Moves.{Leads}
use Rattle.cx_region.specs.Events.{Run}
use Rattle.cx_region.specs.State.{RegionState, TerminalState}
use Rattle.cx_region.specs.Tables.{terminal_of}
use Rattle.cx_region.specs.Turn.{TakesTurn}
use Rattle.cx_region.specs.declared.replies.Event.{Event}
use Rattle.cx_region.specs.declared.replies.Event.TheVariants as event
use Rattle.cx_region.specs.declared.replies.KeyReply.TheVariants as key
use Rattle.cx_region.specs.declared.replies.Reply.{Reply}
use Rattle.cx_region.specs.declared.replies.Reply.TheVariants as reply
use Rattle.cx_region_state.specs.declared.replies.TurnReply.{TurnReply}
use Rattle.cx_look_tasks.specs.Activities.{IsActivity, is_waiting}
use Rattle.cx_look_tasks.specs.declared.activities.Activity.{Activity}
use Rattle.cx_look_tasks.specs.declared.activities.Activity.TheVariants.{NoTask}
use Rattle.cx_orders.specs.Moves.{Moves, begun, is_move, is_taken, keys_of}
use Rattle.cx_orders.specs.declared.states.KeyLine.{KeyLine}
use Rattle.cx_orders.specs.declared.states.Keys.{Keys}
use Rattle.cx_orders.specs.declared.states.OrdersState.{OrdersState}

-- a turn or a key
abbrev pub IsOrder : Event → Type 0
IsOrder (event.Turn name) = Unit {0}
IsOrder (event.Key name aid bytes) = Unit {0}
IsOrder _ = ⊥

-- a turn of a terminal that has a task, and one that doesn't wait, is a move
abbrev pub ActingTurnsMove : Type 0
ActingTurnsMove = (region new : RegionState) (name : List ℕ) (terminal : TerminalState) (activity : Activity)
    (reply : TurnReply) → terminal_of region name ≡ Some terminal → IsActivity region terminal activity
    → activity ≢ NoTask → is_waiting activity ≡ false → TakesTurn region name reply new → is_move reply ≡ true

-- as many turns and keys, one after another, lead the region from a state to a state
pub record IsOrderRun (from : OrdersState) (many : ℕ) (to : OrdersState) : Type 0 where
  pub events : List Event
  pub replies : List Reply
  pub as_many : length events ≡ many
  pub orders : AllByRecursion IsOrder events
  pub run : Run from.region events replies to.region

-- where a list of moves leads, a run of turns and keys does
abbrev pub OrdersAreRuns : Type 0
OrdersAreRuns = (keys : Keys) (from to : OrdersState) (moves : List ℕ) → Leads (Moves keys) from moves to
    → IsOrderRun from (length moves) to

-- where no two terminals have one name, a move leads to one state
abbrev pub MovesDecide : Type 0
MovesDecide = (keys : Keys) (from one other : OrdersState) (move : ℕ)
    → IsDistinct is_name (names_of from.region.terminals)
    → Moves keys from move one → Moves keys from move other → one ≡ other

-- ---- keys that are typed ahead
-- turns, whatever they are answered, and keys of terminals that there are, each of which the region takes
abbrev pub AreTaken : List Event → List Reply → Type 0
AreTaken [] [] = ⊤
AreTaken (event.Turn name ∷ events) (reply.Turn answer ∷ replies) = AreTaken events replies
AreTaken (event.Key name aid bytes ∷ events) (reply.Key answer ∷ replies) =
    (is_taken answer ≡ true) × (answer ≢ key.NoSuchTerminal) × AreTaken events replies
AreTaken _ _ = ⊥

abbrev pub event_of_key : KeyLine → Event
event_of_key key = event.Key key.name key.aid key.bytes

abbrev pub is_key_at : List ℕ → Event → Bool
is_key_at terminal (event.Key name aid bytes) = is_name terminal name
is_key_at terminal _ = false

-- the keys of a terminal that come in a list are the first of those that are to come
pub record AreFirstKeys (lines : List KeyLine) (events : List Event) (terminal : List ℕ) : Type 0 where
  pub left : List Event
  pub are : filter (is_key_at terminal) events ++ left ≡ map event_of_key (keys_of lines terminal)

-- a list of moves leads to a state of the region
pub record IsOrdered (keys : Keys) (from : OrdersState) (region : RegionState) : Type 0 where
  pub moves : List ℕ
  pub to : OrdersState
  pub leads : Leads (Moves keys) from moves to
  pub is : to.region ≡ region

-- Where no two terminals have one name, each list of turns and keys is among the orders of keys that are typed ahead
-- whose keys are the first of their terminals' keys, and are all taken: what it leads to, a list of moves does.
abbrev pub TypedAheadAreOrders : Type 0
TypedAheadAreOrders = (keys : Keys) (region to : RegionState) (events : List Event) (replies : List Reply)
    → keys.typed_ahead ≡ true → IsDistinct is_name (names_of region.terminals)
    → Run region events replies to → AreTaken events replies
    → ((terminal : List ℕ) → AreFirstKeys keys.lines events terminal) → IsOrdered keys (begun region) to
