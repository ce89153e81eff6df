-- What an action of a script with looks does, and what is written for it (own).
use Rattle.std.specs.Prelude.{◌≡◌, ℕ, zero, suc, MatchBool, MatchOption, Option, List, [], ◌++◌, codes}
use Rattle.cx_region.specs.State.{RegionState}
use Rattle.cx_region.specs.Tables.{program_of}
use Rattle.cx_edf.specs.declared.answers.Answer.{Answer}
use Rattle.cx_edf.specs.Steps.{DisplayMaker}
use Rattle.cx_script_actions.specs.Effects.{Performs}
use Rattle.cx_script_actions.specs.Texts.{answer_text}
use Rattle.cx_script_actions.specs.declared.actions.Action.{Action}
use Rattle.cx_script_actions.specs.declared.actions.Action.TheVariants as edf_action
use Rattle.cx_look.specs.declared.look.Look.{Look}
use Rattle.cx_look.specs.declared.choices.ChoicesBlock.{ChoicesBlock}
use Rattle.cx_look.specs.declared.orders.OrdersBlock.{OrdersBlock}
use Rattle.cx_look.specs.declared.look.Look.TheVariants as look
use Rattle.cx_look_lines.specs.Words.{Lines, marked}
use Rattle.cx_look_tables.specs.Queues
use Rattle.cx_look_tables.specs.Programs
use Rattle.cx_look_tables.specs.Terminals
use Rattle.cx_look_ahead.specs.Ahead
use Rattle.cx_look_ahead.specs.At
use Rattle.cx_look_ahead.specs.After
use Rattle.cx_look_tasks.specs.Looks as LooksAtCommands
use Rattle.cx_look_symbols.specs.Sources.{source_lines}
use Rattle.cx_look_symbols.specs.Texts as SymbolTexts
use Rattle.cx_look_xref.specs.Texts as XrefTexts
use Rattle.cx_look_storage.specs.Areas
use Rattle.cx_look_storage.specs.Bytes
use Rattle.cx_look_fields.specs.Addresses
use Rattle.cx_look_fields.specs.Tasks as TasksLookedAt
use Rattle.cx_look_fields.specs.FieldTexts
use Rattle.cx_look_tasks.specs.Tasks
use Rattle.cx_look_abend.specs.Texts as AbendTexts
use Rattle.cx_look_cover.specs.Texts as CoverTexts
use Rattle.cx_look_script.specs.Covered.{cover_lines, covered_from}
use Rattle.cx_look_script.specs.State.{LookState}
use Rattle.cx_look_script.specs.Sources.{level_lines, with_source}
use Rattle.cx_look_script.specs.Runs.{AppliesAtLooks, StopsWith, run_over, still_running, turn_of}
use Rattle.cx_look_script.specs.Watched.{IsWatchedText, cause_of, watch_lines, watched_after}
use Rattle.cx_look_script.specs.Faults.{faults_text}
use Rattle.cx_look_script.specs.Help.{bad_look_text, help_text}
use Rattle.cx_look_script.specs.Choices.{IsChoicesText}
use Rattle.cx_look_script.specs.Orders.{IsOrdersText}
use Rattle.cx_look_script.specs.Telling.{turn_told}
use Rattle.cx_look_script.specs.declared.action.LookAction.{LookAction}
use Rattle.cx_look_script.specs.declared.action.LookAction.TheVariants as action
use Rattle.cx_look_script.specs.declared.action.Stop.{Stop}

-- What a look has to say of a state.
unfoldable pub AreLookLines : Look → LookState → Lines → Type 0
AreLookLines look.Queues state lines = lines ≡ Queues.queues_text state.edf.region.shared.queues
AreLookLines (look.Queue name) state lines = lines ≡ Queues.queue_text state.edf.region.shared.queues name
AreLookLines (look.Item name n) state lines = lines ≡ Queues.item_text state.edf.region.shared.queues name n
AreLookLines look.Programs state lines =
    lines ≡ Programs.programs_text state.edf.region.shared.programs state.edf.region.transactions
AreLookLines look.Tasks state lines = Tasks.TasksText state.edf.region lines
AreLookLines look.Resources state lines = Tasks.ResourcesText state.edf.region lines
AreLookLines (look.Command name) state lines = lines ≡ LooksAtCommands.command_text state.edf.region name
AreLookLines (look.Ahead name n) state lines = Ahead.AheadText state.sources state.edf.region name n lines
AreLookLines (look.AheadAt name program line) state lines =
    At.AtText state.sources state.edf.region name (record { program = program; line = line }) lines
AreLookLines (look.AheadAfter name n) state lines =
    After.AfterText state.edf.region name (codes "AFTER") n
    (After.state_lines state.sources state.edf.region.shared.programs) lines
AreLookLines (look.FieldsAfter name n) state lines =
    After.AfterText state.edf.region name (codes "FIELDS AFTER") n
    (After.fields_lines state.sources state.edf.region name) lines
AreLookLines (look.Task name) state lines = lines ≡ TasksLookedAt.task_text state.sources state.edf.region name
AreLookLines look.Areas state lines = lines ≡ Areas.areas_text state.edf.region
AreLookLines (look.AreasOf name) state lines = lines ≡ Areas.task_areas_text state.edf.region name
AreLookLines (look.Storage at n) state lines = lines ≡ Bytes.storage_text state.edf.region at n
AreLookLines (look.Where at) state lines = lines ≡ Addresses.where_text state.sources state.edf.region at
AreLookLines (look.Abend name) state lines =
    lines ≡ AbendTexts.abend_text state.sources state.edf.region.shared.programs state.abends name
AreLookLines (look.AbendStorage name) state lines = lines ≡ AbendTexts.abend_storage_text state.abends name
AreLookLines (look.AbendFields name) state lines = lines ≡ AbendTexts.abend_fields_text state.sources state.abends name
AreLookLines (look.Faults source) state lines = lines ≡ faults_text source
AreLookLines (look.Symbol program name) state lines =
    lines ≡ SymbolTexts.symbol_text (program_of state.edf.region program) (source_lines state.sources program) name
AreLookLines (look.Symbols program) state lines =
    lines ≡ SymbolTexts.symbols_text (program_of state.edf.region program) program (source_lines state.sources program)
AreLookLines (look.Xref program) state lines = lines ≡ XrefTexts.xref_text program (source_lines state.sources program)
AreLookLines look.Terminals state lines = lines ≡ Terminals.terminals_text state.edf
AreLookLines (look.Field term name k) state lines =
    lines ≡ FieldTexts.field_text state.edf.region (level_lines state term k) term name k
AreLookLines (look.Help word) state lines = lines ≡ help_text word
AreLookLines look.CoveredAll state lines =
    lines ≡ CoverTexts.covered_all_text state.sources state.edf.region state.covered
AreLookLines (look.Covered program) state lines =
    lines ≡ CoverTexts.covered_text state.sources state.edf.region state.covered program
AreLookLines (look.CoveredLines program) state lines =
    lines ≡ CoverTexts.covered_lines_text state.sources state.edf.region state.covered program
AreLookLines (look.Fields term k) state lines =
    lines ≡ FieldTexts.fields_text state.edf.region (level_lines state term k) term k

-- the state, with another region in place of its own; nothing is watched there
abbrev pub at_region : LookState → RegionState → LookState
at_region state region =
    record state { edf = record { region = region; sessions = state.edf.sessions }; watched = [] }

-- and how it is written
pub record IsLookText (look : Look) (state : LookState) (text : List ℕ) : Type 0 where
  pub lines : Lines
  pub are : AreLookLines look state lines
  pub is : text ≡ marked lines

-- what is written for a block of ORDERS: looks at another region are at the sessions and the sources of this one
abbrev pub ShowsOrders : OrdersBlock → LookState → List ℕ → Type 0
ShowsOrders block state text =
    IsOrdersText (λ region l. AreLookLines l (at_region state region)) (turn_told state.sources) block state.edf text

-- and for a block of CHOICES
abbrev pub ShowsChoices : ChoicesBlock → LookState → List ℕ → Type 0
ShowsChoices block state text =
    IsChoicesText (λ region l. AreLookLines l (at_region state region)) block state.edf text

-- an action of `cicsedf`, where displays are made so: an event as its answer says, and the abend that it led to is
-- kept; any other leaves what is kept
unfoldable pub NotedPerforms : DisplayMaker → LookState → Action → List ℕ → LookState → Type 0
NotedPerforms make old (edf_action.Event e) text new =
    (given : Answer) × AppliesAtLooks make old e given new × (text ≡ answer_text e given)
NotedPerforms make old a text new =
    Performs make old.edf a text new.edf × (new.abends ≡ old.abends) × (new.sources ≡ old.sources)
    × (new.watched ≡ old.watched) × (new.covered ≡ old.covered)
    × (new.goes_on ≡ old.goes_on)

-- a source's end: what it does in `cicsedf`, and after that the source's lines are kept, where it defined its program
pub record SourcePerforms (make : DisplayMaker) (old : LookState) (name : List ℕ) (lines : List (List ℕ)) (a : Action)
    (text : List ℕ) (new : LookState) : Type 0 where
  pub done : LookState
  pub performs : NotedPerforms make old a text done
  pub keeps : new ≡ with_source old name lines done

-- a turn of a terminal
abbrev pub TakesNotedTurn : DisplayMaker → LookState → List ℕ → List ℕ → LookState → Type 0
TakesNotedTurn make old name text new = NotedPerforms make old (edf_action.Event (turn_of name)) text new

-- a turn of RUN, or the line with which it ends in front of the turn
pub record RunsTurn (make : DisplayMaker) (old : LookState) (name : List ℕ) (s : Stop) (text : List ℕ)
    (new : LookState) : Type 0 where
  pub line : Option (List ℕ)
  pub stops : StopsWith s old.sources old.edf name line
  pub does : MatchOption line (TakesNotedTurn make old name text new) (λ l. (text ≡ l) × (new ≡ run_over old))

-- one more turn, or where none is left the line that says so
abbrev pub TakesOneMore : DisplayMaker → LookState → List ℕ → ℕ → Stop → List ℕ → LookState → Type 0
TakesOneMore make old name zero s text new = (text ≡ still_running name) × (new ≡ run_over old)
TakesOneMore make old name (suc n) s text new = RunsTurn make old name s text new

-- One action, where displays are made so, but for what WATCH writes after it. Each further turn of RUN is done only
-- where the last is to be followed by one more.
unfoldable pub Acts : DisplayMaker → LookState → LookAction → List ℕ → LookState → Type 0
Acts make old (action.Script a) text new = NotedPerforms make old a text new
Acts make old (action.Source name lines a) text new = SourcePerforms make old name lines a text new
Acts make old (action.Run name n s) text new = RunsTurn make old name s text new
Acts make old (action.RunOn name n s) text new =
    MatchBool old.goes_on (TakesOneMore make old name n s text new) ((text ≡ []) × (new ≡ old))
Acts make old (action.Watch w) text new =
    (text ≡ marked (watch_lines old w)) × (new ≡ record old { watched = watched_after old w })
Acts make old (action.Cover on) text new =
    (text ≡ marked (cover_lines on)) × (new ≡ record old { covered = covered_from on })
Acts make old (action.Look l) text new = IsLookText l old text × (new ≡ old)
Acts make old (action.Orders block) text new = ShowsOrders block old text × (new ≡ old)
Acts make old (action.Choices block) text new = ShowsChoices block old text × (new ≡ old)
Acts make old (action.BadLook number s) text new = (text ≡ marked (bad_look_text number s)) × (new ≡ old)

-- One action, where displays are made so: the state before, the action, what is written for it, and the state after;
-- what is watched and has changed is written last.
pub record LookPerforms (make : DisplayMaker) (old : LookState) (a : LookAction) (text : List ℕ) (new : LookState)
    : Type 0 where
  pub own : List ℕ
  pub acts : Acts make old a own new
  pub watched : List ℕ
  pub shown : IsWatchedText old (cause_of a) new watched
  pub is : text ≡ own ++ watched
