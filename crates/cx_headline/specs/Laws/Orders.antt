-- What any order of turns and keys can do is what ORDERS writes of it.
use Rattle.std.specs.Prelude.{◌≡◌, ◌↔◌, ℕ, List, ◌++◌, Option, Some, None, IsSome, IsTrue, length, map, slice_get, Bool}
use Rattle.cx_search.specs.Forever.{AtRest, IsLong}
use Rattle.cx_search.specs.Moves.{Leads}
use Rattle.cx_search.specs.Rest.{IsNear}
use Rattle.cx_region.specs.State.{RegionState}
use Rattle.cx_edf.specs.Steps.{DisplayMaker}
use Rattle.cx_edf.specs.declared.answers.EdfEvent.TheVariants as event
use Rattle.cx_edf.specs.Laws.Edf.{AreAnsweredOff}
use Rattle.cx_orders.specs.Moves.{Moves, begun}
use Rattle.cx_orders.specs.declared.states.Keys.{Keys}
use Rattle.cx_orders.specs.declared.states.OrdersState.{OrdersState}
use Rattle.cx_look_lines.specs.Words.{Lines}
use Rattle.cx_look_steps.specs.Laws.{AskFor, IsRunOf}
use Rattle.cx_look_orders.specs.Outcomes.{EndsWith, HasText, IsStuck, IsWritten}
use Rattle.cx_look_steps.specs.Steps.{AreSteps, NoLater, Telling, moves_of}
use Rattle.cx_look_orders.specs.Report.{CutText, WholeText}
use Rattle.cx_look_orders.specs.Rest.{RestText}
use Rattle.cx_look_steps.specs.Script.{script_lines, steps_lines}
use Rattle.cx_look_orders.specs.declared.outcomes.Outcome.{Outcome}
use Rattle.cx_look_steps.specs.declared.steps.Step.{Step}
use Rattle.cx_look.specs.Orders.{orders_block}
use Rattle.cx_look.specs.declared.orders.OrdersAsked.{OrdersAsked}
use Rattle.cx_look.specs.declared.orders.OrdersBlock.{OrdersBlock}
use Rattle.cx_look_script.specs.Laws.Orders.{LeadThere}
use Rattle.cx_look_script.specs.Laws.Outcomes.{IsScriptState}
use Rattle.cx_look_script.specs.Looking.{AreLookLines, ShowsOrders, at_region}
use Rattle.cx_look_script.specs.Orders.{AreSeen, keys_asked, names_with_edf, sights_of}
use Rattle.cx_look_script.specs.State.{LookState}
use Rattle.cx_look_script.specs.Telling.{turn_told}

-- An outcome is real. Its steps are moves that end at rest, and what is seen there is its text; of each turn stands
-- what is told of it by the region before it and its reply. The lines that are written of the steps ask for them, one
-- after another, and tell that of the turns; as keys and turns with EDF Off everywhere they lead `cicsedf` from that
-- region to that very state. No list of moves that ends with that text is sooner.
pub record IsReal (Shows : RegionState → Lines → Type 0) (tells : Telling) (keys : Keys) (region : RegionState)
    (one : Outcome) : Type 0 where
  pub to : OrdersState
  pub steps : AreSteps tells keys (begun region) one.steps to
  pub rest : AtRest (Moves keys) to
  pub shows : RestText Shows keys.lines to one.text
  pub script : AskFor region keys.lines (steps_lines region keys.lines None one.steps) one.steps
  pub run : IsRunOf keys.lines (begun region) one.steps to
  pub off : (make : DisplayMaker) → AreAnsweredOff make region run.events run.replies to.region
  pub soonest : (moves : List ℕ) → EndsWith Shows keys (begun region) moves one.text
      → NoLater (moves_of one.steps) moves

-- None is missed of lists of at most so many moves, where they are limited: each that ends at rest ends with the text
-- of an outcome, and whatever is written of its end is one. Each is real, and each text stands once.
pub record AreAll (Shows : RegionState → Lines → Type 0) (tells : Telling) (keys : Keys) (region : RegionState)
    (cut : Option ℕ) (outcomes : List Outcome) : Type 0 where
  pub none_missed : (moves : List ℕ) (text : Lines) → EndsWith Shows keys (begun region) moves text
      → IsNear cut (length moves) → HasText outcomes text
  pub written : (moves : List ℕ) (to : OrdersState) → Leads (Moves keys) (begun region) moves to
      → AtRest (Moves keys) to → IsNear cut (length moves) → IsWritten Shows keys.lines outcomes to
  pub real : (place : ℕ) (one : Outcome) → slice_get outcomes place ≡ Some one → IsReal Shows tells keys region one
  pub once : (j k : ℕ) (one other : Outcome) → slice_get outcomes j ≡ Some one → slice_get outcomes k ≡ Some other
      → one.text ≡ other.text → j ≡ k

-- Where all states were found: all outcomes of lists of moves of whatever length; SOME NEVER REST stands exactly where
-- there are lists of any length, SOME CANNOT REST exactly where one leads to a state from which none leads to rest.
pub record AreWhole (Shows : RegionState → Lines → Type 0) (tells : Telling) (keys : Keys) (region : RegionState)
    (outcomes : List Outcome) (loop : Option (List Step)) (is_stuck : Bool) : Type 0 where
  pub all : AreAll Shows tells keys region None outcomes
  pub never_rest : IsSome loop ↔ ((least : ℕ) → IsLong (Moves keys) (begun region) least)
  pub cannot_rest : IsTrue is_stuck ↔ IsStuck keys (begun region)

-- what the lines of ORDERS say: where all states were found, and where not
pub record AreTrue (Shows : RegionState → Lines → Type 0) (tells : Telling) (keys : Keys) (region : RegionState)
    (edf : List (List ℕ)) (most : ℕ) (lines : Lines) : Type 0 where
  pub whole : (it : WholeText Shows tells keys region edf most lines)
      → AreWhole Shows tells keys region it.outcomes it.loop it.is_stuck
  pub cut : (it : CutText Shows tells keys region edf most lines)
      → AreAll Shows tells keys region (Some it.moves) it.outcomes

-- what is to be seen of a region for a block of ORDERS, at a state
abbrev pub Seen : OrdersBlock → LookState → RegionState → Lines → Type 0
Seen block state region =
    AreSeen (λ look. AreLookLines look (at_region state region)) region (sights_of block.sights state.edf.region)

-- Whatever is written of every order is true, and misses none, whatever is to be seen of a region and told of a turn.
abbrev pub OrdersAreTrue : (RegionState → Lines → Type 0) → Telling → Type 0
OrdersAreTrue Shows tells = (keys : Keys) (region : RegionState) (edf : List (List ℕ)) (most : ℕ) (lines : Lines)
    → AreTrue Shows tells keys region edf most lines

-- so is whatever `cicslook` writes for a block of ORDERS
abbrev pub BlocksAreTrue : Type 0
BlocksAreTrue = (block : OrdersBlock) (state : LookState) (text : List ℕ) (is : ShowsOrders block state text)
    → AreTrue (Seen block state) (turn_told state.sources) (keys_asked block) state.edf.region
    (names_with_edf state.edf) block.most is.lines

-- Where a script may be, the lines that are written of steps are read as lines of a script. They ask for EDF OFF where
-- EDF is on, and then for the very events that the steps are; and done one after another they lead to the region to
-- which the steps lead: of the keys of a block's lines.
abbrev pub LinesLeadThere : Type 0
LinesLeadThere = (make : DisplayMaker) (state : LookState) → IsScriptState make state
    → (asked : OrdersAsked) (lines : List (List ℕ)) (steps : List Step) (to : OrdersState)
    → (run : IsRunOf (orders_block asked lines).keys (begun state.edf.region) steps to)
    → LeadThere make state
    (script_lines state.edf.region (orders_block asked lines).keys (names_with_edf state.edf) steps)
    (map event.Off (names_with_edf state.edf) ++ map event.Plain run.events) to.region
