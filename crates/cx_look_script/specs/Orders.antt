-- ORDERS: what is to be seen of an outcome, and what is written (own).
use Rattle.std.specs.Prelude.{◌≡◌, ℕ, ◌==◌, if◌then◌else◌, is_some, filter, List, [], ◌∷◌, ◌++◌, length, map}
use Rattle.std.specs.Map.{keys_of}
use Rattle.cx_edf.specs.State.{EdfState, session_at}
use Rattle.cx_region.specs.State.{RegionState}
use Rattle.cx_script_actions.specs.Effects.{screen_text}
use Rattle.cx_script_io.specs.Lines.{lines_met}
use Rattle.cx_script_io.specs.declared.input.Ending.TheVariants.{AtEnd}
use Rattle.cx_look.specs.declared.look.Look.{Look}
use Rattle.cx_look.specs.declared.look.Look.TheVariants as look
use Rattle.cx_look.specs.declared.orders.OrdersBlock.{OrdersBlock}
use Rattle.cx_look.specs.declared.orders.Sight.{Sight}
use Rattle.cx_look.specs.declared.orders.Sight.TheVariants as sight
use Rattle.cx_look_orders.specs.Report.{OrdersText}
use Rattle.cx_look_steps.specs.Steps.{Telling}
use Rattle.cx_orders.specs.declared.states.Keys.{Keys}
use Rattle.cx_look_lines.specs.Words.{Lines, marked}
use Rattle.cx_look_tables.specs.Hidden.{hidden_items, hidden_rows}

-- ---- what is to be seen of a region, where `Says` is what looks at it have to say
-- the first, and then what is said of the others
pub record SeenThen (Is Rest : Lines → Type 0) (lines : Lines) : Type 0 where
  pub first : Lines
  pub is : Is first
  pub others : Lines
  pub rest : Rest others
  pub whole : lines ≡ first ++ others

-- what a look shows of bytes by characters that other bytes have too, or cuts: the items of a queue, as a whole
abbrev pub hidden_lines : RegionState → Look → Lines
hidden_lines region (look.Queue name) = hidden_items region.shared.queues name
hidden_lines region _ = []

-- A screen, line by line as SCREEN writes it; or what a look has to say. Bytes that are shown as others are stand there
-- in digits too, so that they are told apart.
unfoldable pub IsSeen : (Look → Lines → Type 0) → RegionState → Sight → Lines → Type 0
IsSeen Says region (sight.Screen name) lines =
    lines ≡ lines_met AtEnd (screen_text region name) ++ hidden_rows region name
IsSeen Says region (sight.Look l) lines = SeenThen (Says l) (λ others. others ≡ hidden_lines region l) lines

-- one after the other
unfoldable pub AreSeen : (Look → Lines → Type 0) → RegionState → List Sight → Lines → Type 0
AreSeen Says region [] lines = lines ≡ []
AreSeen Says region (s ∷ sights) lines = SeenThen (IsSeen Says region s) (AreSeen Says region sights) lines

-- where a block says nothing of it, each terminal's screen
abbrev pub sights_of : List Sight → RegionState → List Sight
sights_of sights region = if length sights == 0 then map (λ t. sight.Screen t.0) region.terminals else sights

-- ---- what is written
-- the keys that a block asks for, and when they may come
abbrev pub keys_asked : OrdersBlock → Keys
keys_asked block = record { typed_ahead = block.typed_ahead; lines = block.keys }

-- the terminals that have EDF on, in the order of their definition
abbrev pub names_with_edf : EdfState → List (List ℕ)
names_with_edf state = filter (λ name. is_some (session_at state name)) (keys_of state.region.terminals)

-- What is written for a block of ORDERS, where `Says` is what looks at a region have to say, and `tells` what is told
-- of turns.
pub record IsOrdersText (Says : RegionState → Look → Lines → Type 0) (tells : Telling) (block : OrdersBlock)
    (state : EdfState) (text : List ℕ) : Type 0 where
  pub lines : Lines
  pub are : let sights = sights_of block.sights state.region in
      OrdersText (λ region. AreSeen (Says region) region sights) tells (keys_asked block) state.region
      (names_with_edf state) block.most lines
  pub is : text ≡ marked lines
