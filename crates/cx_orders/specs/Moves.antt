-- A move of a region with keys that are to come: a turn of a terminal, or the next of its keys (this product's own).
use Rattle.std.specs.Prelude.{◌≡◌, ◌⊎◌, ℕ, ◌+◌, ◌*◌, ◌≤◌, Bool, true, false, MatchBool, List, [], filter, length, replicate, Some, slice_get, slice_set}
use Rattle.cx_ebcdic.specs.Names.{is_name}
use Rattle.cx_region.specs.Attach.{TakesKey, input_from}
use Rattle.cx_region.specs.State.{RegionState, TerminalState}
use Rattle.cx_region.specs.Turn.{TakesTurn}
use Rattle.cx_region.specs.declared.replies.KeyReply.{KeyReply}
use Rattle.cx_region.specs.declared.replies.KeyReply.TheVariants as key
use Rattle.cx_region_state.specs.declared.replies.TurnReply.{TurnReply}
use Rattle.cx_region_state.specs.declared.replies.TurnReply.TheVariants as turn
use Rattle.cx_look_tasks.specs.Activities.{IsActivity}
use Rattle.cx_look_tasks.specs.declared.activities.Activity.{Activity}
use Rattle.cx_look_tasks.specs.declared.activities.Activity.TheVariants.{NoTask, Waiting}
use Rattle.cx_region_task.specs.declared.decision.Wait.TheVariants as wait
use Rattle.cx_orders.specs.declared.states.KeyLine.{KeyLine}
use Rattle.cx_orders.specs.declared.states.Keys.{Keys}
use Rattle.cx_orders.specs.declared.states.OrdersState.{OrdersState}
use Rattle.cx_orders.specs.Incidents.{incident_of_key, incident_of_turn, with_incident}

-- ---- turns
-- a turn is a move unless it is answered so
abbrev pub is_move : TurnReply → Bool
is_move turn.Idle = false
is_move turn.NoSuchTerminal = false
is_move turn.Waiting = false
is_move _ = true

-- a turn of the terminal
pub record TurnMoves (from : OrdersState) (number : ℕ) (name : List ℕ) (to : OrdersState) : Type 0 where
  pub reply : TurnReply
  pub takes : TakesTurn from.region name reply to.region
  pub moves : is_move reply ≡ true
  pub come : to.come ≡ from.come
  pub incidents : to.incidents ≡ with_incident number (incident_of_turn reply) from.incidents

-- ---- keys
-- an operator could press a key: the terminal has no task, or its task waits for input
abbrev pub is_ready : Activity → Bool
is_ready NoTask = true
is_ready (Waiting wait.Input) = true
is_ready _ = false

pub record IsReadyTerminal (from : OrdersState) (terminal : TerminalState) : Type 0 where
  pub activity : Activity
  pub is : IsActivity from.region terminal activity
  pub ready : is_ready activity ≡ true

-- a key is taken unless it is answered so: input is held already for the terminal's task
abbrev pub is_taken : KeyReply → Bool
is_taken key.AlreadyHeldInput = false
is_taken _ = true

-- when a key may come: typed ahead at any moment at which it is taken, else where an operator could press it
abbrev pub MayCome : Bool → OrdersState → TerminalState → KeyReply → Type 0
MayCome typed_ahead from terminal reply =
    MatchBool typed_ahead (is_taken reply ≡ true) (IsReadyTerminal from terminal)

-- a key has at most 1,920 bytes
abbrev pub IsFew : KeyLine → Type 0
IsFew key = length key.bytes ≤ 1920

-- the keys of a terminal, in the order in which they come
abbrev pub keys_of : List KeyLine → List ℕ → List KeyLine
keys_of keys name = filter (λ key. is_name key.name name) keys

-- that key comes, whatever it is answered; so many came before
pub record KeyComes (from : OrdersState) (number : ℕ) (name : List ℕ) (came : ℕ) (key : KeyLine) (to : OrdersState)
    : Type 0 where
  pub reply : KeyReply
  pub takes : TakesKey from.region name (input_from key.aid key.bytes) reply to.region
  pub come : to.come ≡ slice_set from.come number (came + 1)
  pub incidents : to.incidents ≡ with_incident number (incident_of_key reply) from.incidents

-- the next of the terminal's keys, of which so many came
pub record KeyMoves (keys : Keys) (from : OrdersState) (number : ℕ) (name : List ℕ)
    (terminal : TerminalState) (came : ℕ) (to : OrdersState) : Type 0 where
  pub key : KeyLine
  pub next : slice_get (keys_of keys.lines name) came ≡ Some key
  pub comes : KeyComes from number name came key to
  pub may : MayCome keys.typed_ahead from terminal comes.reply

-- ---- moves
-- their numbers: of each terminal, by its number in the order of their definition, a turn and then its next key
abbrev pub turn_number : ℕ → ℕ
turn_number number = 2 * number

abbrev pub key_number : ℕ → ℕ
key_number number = 2 * number + 1

-- A move: of the terminal with some number a turn, or its next key.
pub record Moves (keys : Keys) (from : OrdersState) (move : ℕ) (to : OrdersState) : Type 0 where
  pub number : ℕ
  pub name : List ℕ
  pub terminal : TerminalState
  pub at : slice_get from.region.terminals number ≡ Some (name, terminal)
  pub came : ℕ
  pub come : slice_get from.come number ≡ Some came
  pub by : ((move ≡ turn_number number) × TurnMoves from number name to)
      ⊎ ((move ≡ key_number number) × KeyMoves keys from number name terminal came to)

-- the state in which orders begin: no key has come
abbrev pub begun : RegionState → OrdersState
begun region = record { region = region; come = replicate (length region.terminals) 0; incidents = [] }
