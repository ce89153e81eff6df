-- What is written for a block of ORDERS is one text, and its scripts ask for the events that lead to its outcomes.
use Rattle.std.specs.Prelude.{◌≡◌, ℕ, Bool, true, false, ⊤, Some, List, [], ◌∷◌, ◌++◌, filter, map, not, replicate}
use Rattle.std.specs.List.{AllByRecursion, IsDistinct, flat_map}
use Rattle.std.specs.Map.{keys_of as names_of}
use Rattle.cx_ebcdic.specs.Names.{is_name, padded_name}
use Rattle.cx_region.specs.State.{RegionState}
use Rattle.cx_region.specs.declared.replies.Event.{Event}
use Rattle.cx_edf.specs.declared.answers.EdfEvent.{EdfEvent}
use Rattle.cx_edf.specs.declared.answers.EdfEvent.TheVariants as edf_event
use Rattle.cx_edf.specs.Steps.{DisplayMaker}
use Rattle.cx_script_actions.specs.Actions.{is_blank_or_comment}
use Rattle.cx_script_actions.specs.declared.actions.Action.TheVariants as edf_action
use Rattle.cx_script_actions.specs.declared.actions.Line.TheVariants as line
use Rattle.cx_orders.specs.Moves.{begun}
use Rattle.cx_orders.specs.declared.states.KeyLine.{KeyLine}
use Rattle.cx_orders.specs.declared.states.OrdersState.{OrdersState}
use Rattle.cx_look.specs.Laws.{IsAskedByItsLine}
use Rattle.cx_look.specs.declared.look.Look.{Look}
use Rattle.cx_look.specs.declared.look.Look.TheVariants as look
use Rattle.cx_look.specs.declared.orders.OrdersBlock.{OrdersBlock}
use Rattle.cx_look.specs.declared.orders.Sight.{Sight}
use Rattle.cx_look.specs.declared.orders.Sight.TheVariants as sight
use Rattle.cx_look_lines.specs.Words.{Lines}
use Rattle.cx_look_steps.specs.Laws.{IsRunOf, event_of_step}
use Rattle.cx_look_steps.specs.Script.{script_lines}
use Rattle.cx_look_steps.specs.declared.steps.Step.{Step}
use Rattle.cx_script.specs.Transcript.{PerformsAll}
use Rattle.cx_look_script.specs.Looking.{AreLookLines, LookPerforms, ShowsOrders, at_region}
use Rattle.cx_look_script.specs.Orders.{AreSeen, names_with_edf}
use Rattle.cx_look_script.specs.Reading.{look_line_of}
use Rattle.cx_look_script.specs.Runs.{look_actions_of, turn_of}
use Rattle.cx_look_script.specs.State.{LookState}
use Rattle.cx_look_script.specs.declared.action.LookAction.{LookAction}
use Rattle.cx_look_script.specs.declared.action.LookAction.TheVariants as action
use Rattle.cx_look_script.specs.declared.action.Stop.TheVariants as stop

-- ---- one text
-- where no two terminals share a name, the text for a block is a function of the state
abbrev pub OrdersAreReportedOnce : Type 0
OrdersAreReportedOnce = (block : OrdersBlock) (state : LookState) (one other : List ℕ)
    → IsDistinct is_name (names_of state.edf.region.terminals)
    → ShowsOrders block state one → ShowsOrders block state other → one ≡ other

-- ---- what the lines of its scripts ask
-- a text spells the name, as that of a line TERMINAL does
pub record HasSpelling (name : List ℕ) : Type 0 where
  pub text : List ℕ
  pub spells : padded_name 4 text ≡ Some name

-- the events that an action asks for: its own, or as many turns as RUN may do
abbrev pub asked_events : LookAction → List EdfEvent
asked_events (action.Script (edf_action.Event e)) = e ∷ []
asked_events (action.Run name n stop.Never) = replicate n (turn_of name)
asked_events _ = []

-- the lines of a script that ask for something: not those that are blank, and not comments
abbrev pub asking_lines : Lines → Lines
asking_lines lines = filter (λ l. not (is_blank_or_comment l)) lines

-- lines, wherever they stand in a script, are read as actions that ask for these events, one after another
pub record AskForEvents (lines : Lines) (events : List EdfEvent) : Type 0 where
  pub actions : List LookAction
  pub read : (number : ℕ) → map (look_line_of number) (asking_lines lines)
      ≡ map (λ a. Some (line.Action a)) actions
  pub ask : flat_map asked_events actions ≡ events

-- so the lines that do steps ask for EDF OFF of each of these terminals, and then for the events that the steps are
abbrev pub ScriptsAskForEvents : Type 0
ScriptsAskForEvents = (region : RegionState) (keys : List KeyLine) (edf : List (List ℕ)) (steps : List Step)
    (events : List Event) → AllByRecursion HasSpelling (names_of region.terminals) → AllByRecursion HasSpelling edf
    → AllByRecursion IsAskedByItsLine keys
    → map (event_of_step (names_of region.terminals) keys) steps ≡ map Some events
    → AskForEvents (script_lines region keys edf steps) (map edf_event.Off edf ++ map edf_event.Plain events)

-- ---- where they lead
-- a look shows the region and the sources, and nothing of EDF, of an abend that is kept or of what is counted
abbrev pub is_of_region : Look → Bool
is_of_region look.Terminals = false
is_of_region (look.Abend name) = false
is_of_region (look.AbendStorage name) = false
is_of_region (look.AbendFields name) = false
is_of_region look.CoveredAll = false
is_of_region (look.Covered program) = false
is_of_region (look.CoveredLines program) = false
is_of_region _ = true

abbrev pub IsOfRegion : Sight → Type 0
IsOfRegion (sight.Screen name) = ⊤
IsOfRegion (sight.Look l) = is_of_region l ≡ true

-- A state with that region, in which screens and such looks show what they show of the region at another state.
pub record IsThere (state : LookState) (region : RegionState) (new : LookState) : Type 0 where
  pub is : new.edf.region ≡ region
  pub seen : (sights : List Sight) (lines : Lines) → AllByRecursion IsOfRegion sights
      → AreSeen (λ l. AreLookLines l (at_region state region)) region sights lines
      → AreSeen (λ l. AreLookLines l new) new.edf.region sights lines

-- Lines ask for these events; and the actions as which they are read, done one after another from the state on, lead to
-- a state with that region, whatever is written for them and however displays are made.
pub record LeadThere (make : DisplayMaker) (state : LookState) (lines : Lines) (events : List EdfEvent)
    (region : RegionState) : Type 0 where
  pub asked : AskForEvents lines events
  pub lead : (text : List ℕ) (new : LookState)
      → PerformsAll (LookPerforms make) state (flat_map look_actions_of asked.actions) text new
      → IsThere state region new

-- the lines that are written of steps lead where the steps do without EDF
abbrev pub ScriptsLeadThere : Type 0
ScriptsLeadThere = (make : DisplayMaker) (state : LookState) (keys : List KeyLine) (steps : List Step)
    (to : OrdersState)
    → AllByRecursion HasSpelling (names_of state.edf.region.terminals) → AllByRecursion IsAskedByItsLine keys
    → (run : IsRunOf keys (begun state.edf.region) steps to)
    → LeadThere make state (script_lines state.edf.region keys (names_with_edf state.edf) steps)
    (map edf_event.Off (names_with_edf state.edf) ++ map edf_event.Plain run.events) to.region
