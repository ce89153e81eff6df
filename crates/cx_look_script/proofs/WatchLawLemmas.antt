-- WATCH changes nothing that another line does or writes itself.
use Rattle.std.proofs.Common.{◌≡◌, ℕ, zero, suc, Bool, true, false, MatchBool, Option, Some, None, List, [], refl, ap, ◌∙◌}
use Rattle.std.specs.Prelude.{MatchOption}
use Rattle.cx_script_actions.specs.declared.actions.Action.{Action}
use Rattle.cx_script_actions.specs.declared.actions.Action.TheVariants as script
use Rattle.cx_look.specs.declared.look.Look.{Look}
use Rattle.cx_look.specs.declared.look.Look.TheVariants as look
use Rattle.cx_look_lines.specs.Words.{Lines}
use Rattle.cx_edf.specs.Sessions.{Sessions}
use Rattle.cx_edf.specs.Steps.{DisplayMaker}
use Rattle.cx_look_abend.specs.Noting.{KeptAbends}
use Rattle.cx_look_abend.specs.Texts.{abend_fields_text, abend_storage_text, abend_text}
use Rattle.cx_look_ahead.specs.declared.rows.Row.{Row}
use Rattle.cx_look_cover.specs.Texts.{covered_all_text, covered_lines_text, covered_text}
use Rattle.cx_exec.specs.declared.tallied.Tally.{Tally}
use Rattle.cx_look_tables.specs.Terminals.{terminals_text}
use Rattle.cx_look_script.specs.Laws.Orders.{is_of_region}
use Rattle.cx_look_script.specs.Laws.Looks.{turn_action}
use Rattle.cx_look_script.specs.Laws.Watches.{WatchesChangeNothing, WatchesStay, watching}
use Rattle.cx_look_script.specs.Looking.{Acts, AreLookLines, NotedPerforms, RunsTurn, TakesOneMore, at_region}
use Rattle.cx_look_script.specs.Runs.{run_over}
use Rattle.cx_look_script.specs.State.{LookState}
use Rattle.cx_look_script.specs.declared.action.LookAction.TheVariants as action
use Rattle.cx_look_script.specs.declared.action.Stop.{Stop}

-- ---- the same whatever is watched
same_watching : (one other : LookState) (ranges : List Row) → one ≡ other → watching one ranges ≡ watching other ranges
same_watching one other ranges e = ap (λ (s : LookState). watching s ranges) e

noted : (make : DisplayMaker) (old : LookState) (a : Action) (text : List ℕ) (new : LookState) (ranges : List Row) → NotedPerforms make old a text new
    → NotedPerforms make (watching old ranges) a text (watching new ranges)
unfolding NotedPerforms
noted make old (script.Event e) text new ranges p =
    (p.0, record { noted = p.1.noted; sources = p.1.sources; watched = refl; covered = p.1.covered; goes_on = p.1.goes_on }, p.2)
noted make old (script.Image name image) text new ranges p = (p.0, p.1, p.2, refl, p.4, p.5)
noted make old (script.Source name before image) text new ranges p = (p.0, p.1, p.2, refl, p.4, p.5)
noted make old (script.Screen name) text new ranges p = (p.0, p.1, p.2, refl, p.4, p.5)
noted make old (script.Display name) text new ranges p = (p.0, p.1, p.2, refl, p.4, p.5)
noted make old (script.Previous name k) text new ranges p = (p.0, p.1, p.2, refl, p.4, p.5)

turn_done : (make : DisplayMaker) (old : LookState) (name text : List ℕ) (new : LookState) (ranges : List Row) (line : Option (List ℕ))
    → MatchOption line (NotedPerforms make old (turn_action name) text new) (λ l. (text ≡ l) × (new ≡ run_over old))
    → MatchOption line (NotedPerforms make (watching old ranges) (turn_action name) text (watching new ranges))
    (λ l. (text ≡ l) × (watching new ranges ≡ run_over (watching old ranges)))
turn_done make old name text new ranges None p = noted make old (turn_action name) text new ranges p
turn_done make old name text new ranges (Some l) p = (p.0, same_watching new (run_over old) ranges p.1)

turn : (make : DisplayMaker) (old : LookState) (name : List ℕ) (s : Stop) (text : List ℕ) (new : LookState) (ranges : List Row) → RunsTurn make old name s text new
    → RunsTurn make (watching old ranges) name s text (watching new ranges)
turn make old name s text new ranges p =
    record { line = p.line; stops = p.stops; does = turn_done make old name text new ranges p.line p.does }

one_more : (make : DisplayMaker) (old : LookState) (name : List ℕ) (n : ℕ) (s : Stop) (text : List ℕ) (new : LookState) (ranges : List Row) (on : Bool)
    → MatchBool on (TakesOneMore make old name n s text new) ((text ≡ []) × (new ≡ old))
    → MatchBool on (TakesOneMore make (watching old ranges) name n s text (watching new ranges))
    ((text ≡ []) × (watching new ranges ≡ watching old ranges))
one_more make old name zero s text new ranges true p = (p.0, same_watching new (run_over old) ranges p.1)
one_more make old name (suc n) s text new ranges true p = turn make old name s text new ranges p
one_more make old name n s text new ranges false p = (p.0, same_watching new old ranges p.1)

-- a state with the region and the sources of another
abbrev pub seen_as : LookState → LookState → LookState
seen_as state other = record other { edf = record other.edf { region = state.edf.region }; sources = state.sources }

-- what a look shows is the same there; where it shows EDF, a kept abend or what is counted, if these are the same too
pub same_lines : (l : Look) (state other : LookState) (lines : Lines) → (is_of_region l ≡ false → (state.edf.sessions ≡ other.edf.sessions) × (state.abends ≡ other.abends) × (state.covered ≡ other.covered))
    → AreLookLines l state lines → AreLookLines l (seen_as state other) lines
unfolding AreLookLines
same_lines (look.Abend name) state other lines alike p =
    p ∙ ap (λ (a : KeptAbends). abend_text state.sources state.edf.region.shared.programs a name) (alike refl).1
same_lines (look.AbendStorage name) state other lines alike p = p ∙ ap (λ (a : KeptAbends). abend_storage_text a name) (alike refl).1
same_lines (look.AbendFields name) state other lines alike p = p ∙ ap (λ (a : KeptAbends). abend_fields_text state.sources a name) (alike refl).1
same_lines look.Terminals state other lines alike p =
    p ∙ ap (λ (s : Sessions). terminals_text (record state.edf { sessions = s })) (alike refl).0
same_lines look.CoveredAll state other lines alike p =
    p ∙ ap (λ (c : Option (List Tally)). covered_all_text state.sources state.edf.region c) (alike refl).2
same_lines (look.Covered program) state other lines alike p =
    p ∙ ap (λ (c : Option (List Tally)). covered_text state.sources state.edf.region c program) (alike refl).2
same_lines (look.CoveredLines program) state other lines alike p =
    p ∙ ap (λ (c : Option (List Tally)). covered_lines_text state.sources state.edf.region c program) (alike refl).2
same_lines l state other lines alike p = p

-- at a state and its own region
pub same_at : (l : Look) (state : LookState) (lines : Lines) → AreLookLines l (at_region state state.edf.region) lines → AreLookLines l state lines
same_at l state lines p = same_lines l (at_region state state.edf.region) state lines (λ no. (refl, refl, refl)) p

pub watches_change_nothing : WatchesChangeNothing
unfolding Acts
watches_change_nothing make old (action.Script a) own new ranges e p = noted make old a own new ranges p
watches_change_nothing make old (action.Source name lines a) own new ranges e p =
    record {
      done = watching p.done ranges;
      performs = noted make old a own p.done ranges p.performs;
      keeps = ap (λ (s : LookState). watching s ranges) p.keeps;
    }
watches_change_nothing make old (action.Run name n s) own new ranges e p = turn make old name s own new ranges p
watches_change_nothing make old (action.RunOn name n s) own new ranges e p = one_more make old name n s own new ranges old.goes_on p
watches_change_nothing make old (action.Watch w) own new ranges e p = cc
watches_change_nothing make old (action.Cover on) own new ranges e p = (p.0, same_watching new _ ranges p.1)
watches_change_nothing make old (action.Look l) own new ranges e p =
    (record { lines = p.0.lines; are = same_lines l old (watching old ranges) p.0.lines (λ no. (refl, refl, refl)) p.0.are; is = p.0.is }, same_watching new old ranges p.1)
watches_change_nothing make old (action.Orders block) own new ranges e p = (p.0, same_watching new old ranges p.1)
watches_change_nothing make old (action.Choices block) own new ranges e p = (p.0, same_watching new old ranges p.1)
watches_change_nothing make old (action.BadLook number s) own new ranges e p = (p.0, same_watching new old ranges p.1)

-- ---- what is watched stays
noted_stay : (make : DisplayMaker) (old : LookState) (a : Action) (text : List ℕ) (new : LookState) → NotedPerforms make old a text new → new.watched ≡ old.watched
unfolding NotedPerforms
noted_stay make old (script.Event e) text new p = p.1.watched
noted_stay make old (script.Image name image) text new p = p.3
noted_stay make old (script.Source name before image) text new p = p.3
noted_stay make old (script.Screen name) text new p = p.3
noted_stay make old (script.Display name) text new p = p.3
noted_stay make old (script.Previous name k) text new p = p.3

same_watched : (one other : LookState) → one ≡ other → one.watched ≡ other.watched
same_watched one other e = ap (λ (s : LookState). s.watched) e

turn_stay : (make : DisplayMaker) (old : LookState) (name text : List ℕ) (new : LookState) (line : Option (List ℕ))
    → MatchOption line (NotedPerforms make old (turn_action name) text new) (λ l. (text ≡ l) × (new ≡ run_over old)) → new.watched ≡ old.watched
turn_stay make old name text new None p = noted_stay make old (turn_action name) text new p
turn_stay make old name text new (Some l) p = same_watched new (run_over old) p.1

more_stay : (make : DisplayMaker) (old : LookState) (name : List ℕ) (n : ℕ) (s : Stop) (text : List ℕ) (new : LookState) (on : Bool)
    → MatchBool on (TakesOneMore make old name n s text new) ((text ≡ []) × (new ≡ old)) → new.watched ≡ old.watched
more_stay make old name zero s text new true p = same_watched new (run_over old) p.1
more_stay make old name (suc n) s text new true p = turn_stay make old name text new p.line p.does
more_stay make old name n s text new false p = same_watched new old p.1

pub watches_stay : WatchesStay
unfolding Acts
watches_stay make old (action.Script a) own new e p = noted_stay make old a own new p
watches_stay make old (action.Source name lines a) own new e p =
    ap (λ (s : LookState). s.watched) p.keeps ∙ noted_stay make old a own p.done p.performs
watches_stay make old (action.Run name n s) own new e p = turn_stay make old name own new p.line p.does
watches_stay make old (action.RunOn name n s) own new e p = more_stay make old name n s own new old.goes_on p
watches_stay make old (action.Watch w) own new e p = cc
watches_stay make old (action.Cover on) own new e p = same_watched new _ p.1
watches_stay make old (action.Look l) own new e p = same_watched new old p.1
watches_stay make old (action.Orders block) own new e p = same_watched new old p.1
watches_stay make old (action.Choices block) own new e p = same_watched new old p.1
watches_stay make old (action.BadLook number s) own new e p = same_watched new old p.1
