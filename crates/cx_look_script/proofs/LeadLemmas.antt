-- Where the lines of a script of ORDERS lead: through the states of their steps.
use Rattle.std.proofs.Common.{◌≡◌, ℕ, ◌-◌, zero, suc, Bool, true, false, MatchBool, Option, Some, None, List, [], ◌∷◌, ◌++◌, arith, cond, filter, is_some, map, refl, sym, ap, subst, ◌∙◌, true≢false}
use Rattle.std.specs.Prelude.{⊤, MatchOption, drop, if◌then◌else◌, not, ◌&&◌, option_map, replicate, slice_get}
use Rattle.std.specs.List.{AllByRecursion, flat_map}
use Rattle.std.specs.Map.{keys_of as names_of, lookup}
use Rattle.std.specs.Option.{option_and_then, option_map_or}
use Rattle.std.proofs.lemmas.Option.{none-some, same_Some}
use Rattle.cx_base.specs.Facts.Lookups.{lookup-set_value-same}
use Rattle.cx_ebcdic.specs.Facts.Names.{is_name-decides, is_name-laws}
use Rattle.cx_ebcdic.specs.Names.{is_name}
use Rattle.cx_region_state.specs.Replies.{is_over}
use Rattle.cx_region_state.specs.State.{TaskState}
use Rattle.cx_region_state.specs.declared.replies.TurnReply.{TurnReply}
use Rattle.cx_region_state.specs.declared.replies.TurnReply.TheVariants as turn
use Rattle.cx_region.specs.Events.{Applies, Run}
use Rattle.cx_region.specs.State.{RegionState, TerminalState}
use Rattle.cx_region.specs.Tables.{task_of, terminal_of}
use Rattle.cx_region.specs.Turn.{TakesTurn, TaskTakesTurn, task_after}
use Rattle.cx_region.specs.declared.replies.Event.{Event}
use Rattle.cx_region.specs.declared.replies.Event.TheVariants as event
use Rattle.cx_region.specs.declared.replies.Reply.{Reply}
use Rattle.cx_region.specs.declared.replies.Reply.TheVariants as reply
use Rattle.cx_region_laws.specs.Laws.Regions.{EventsDecide}
use Rattle.cx_edf.specs.declared.displays.Display.{Display}
use Rattle.cx_edf.specs.declared.stops.StopPoint.{StopPoint}
use Rattle.cx_edf.specs.Erasure.{is_own}
use Rattle.cx_edf.specs.Laws.Edf.{OtherEventsArePassed, OtherSessionsStay, SessionsAreSet}
use Rattle.cx_edf.specs.Sessions.{SessionState, Sessions, after_reply, is_stopped, session_in, with_session}
use Rattle.cx_edf.specs.State.{EdfState, session_at, stopped_at}
use Rattle.cx_edf.specs.Steps.{DisplayMaker, Door, DoorAnswers, EdfApplies, Keeps, PassesOn, door_of, sessions_after}
use Rattle.cx_edf.specs.declared.answers.Answer.{Answer}
use Rattle.cx_edf.specs.declared.answers.Answer.TheVariants as answer
use Rattle.cx_edf.specs.declared.answers.EdfEvent.{EdfEvent}
use Rattle.cx_edf.specs.declared.answers.EdfEvent.TheVariants as edf_event
use Rattle.cx_edf.specs.declared.answers.EdfReply.TheVariants as edf
use Rattle.cx_script_actions.specs.Effects.{screen_text}
use Rattle.cx_script_actions.specs.declared.actions.Action.TheVariants as edf_action
use Rattle.cx_script_io.specs.Lines.{lines_met}
use Rattle.cx_script_io.specs.declared.input.Ending.TheVariants.{AtEnd}
use Rattle.cx_script.specs.Transcript.{PerformsAll}
use Rattle.cx_orders.specs.Laws.{IsOrder}
use Rattle.cx_orders.specs.Moves.{is_move, keys_of}
use Rattle.cx_orders.specs.declared.states.KeyLine.{KeyLine}
use Rattle.cx_look.specs.declared.look.Look.{Look}
use Rattle.cx_look.specs.declared.orders.Sight.{Sight}
use Rattle.cx_look.specs.declared.orders.Sight.TheVariants as sight
use Rattle.cx_look_lines.specs.Words.{Lines}
use Rattle.cx_look_tables.specs.Hidden.{hidden_rows}
use Rattle.cx_look_steps.specs.Laws.{IsMoveReply, ScriptsAskForSteps, event_at, event_of_step}
use Rattle.cx_look_steps.specs.declared.steps.Step.{Step}
use Rattle.cx_look_script.specs.Laws.Looks.{turn_action}
use Rattle.cx_look_script.specs.Laws.Orders.{HasSpelling, IsOfRegion, ScriptsLeadThere, asked_events, is_of_region}
use Rattle.cx_look_script.specs.Looking.{Acts, AreLookLines, LookPerforms, NotedPerforms, TakesOneMore, at_region}
use Rattle.cx_look_script.specs.Orders.{AreSeen, IsSeen, hidden_lines, names_with_edf}
use Rattle.cx_look_script.specs.Runs.{AppliesAtLooks, StopsWith, is_midway, look_actions_of, run_over, turn_goes_on, turn_of, turns_left}
use Rattle.cx_look_script.specs.State.{LookState}
use Rattle.cx_look_script.specs.declared.action.LookAction.{LookAction}
use Rattle.cx_look_script.specs.declared.action.LookAction.TheVariants as action
use Rattle.cx_look_script.specs.declared.action.Stop.TheVariants as stop
use Rattle.cx_look_script.proofs.AskLemmas.{IsAsking, scripts_asks}
use Rattle.cx_look_script.proofs.NameLemmas.{Terminals}
use Rattle.cx_look_script.proofs.SpellingLemmas.{ShownAsItself}
use Rattle.cx_look_script.proofs.TurnLemmas.{by_bool}
use Rattle.cx_look_script.proofs.WatchLawLemmas.{same_lines, seen_as}

-- ---- where events lead, whatever they are answered
-- where the next event is a turn of the same terminal, one more turn follows
abbrev KeepsOn : EdfEvent → Answer → EdfState → List EdfEvent → Type 0
KeepsOn (edf_event.Plain (event.Turn name)) given new (edf_event.Plain (event.Turn other) ∷ events) = name ≡ other → turn_goes_on new (turn_of name) given ≡ true
KeepsOn e given new events = ⊤

abbrev Way : (make : DisplayMaker) → EdfState → List EdfEvent → RegionState → Type 0
Way make old [] region = old.region ≡ region
Way make old (e ∷ events) region = (given : Answer) (new : EdfState) → EdfApplies make old e given new → KeepsOn e given new events × Way make new events region

-- ---- actions that ask for them
record Led (old : LookState) (region : RegionState) (new : LookState) : Type 0 where
  is : new.edf.region ≡ region
  sources : new.sources ≡ old.sources

-- a turn of RUN that is done
record Turned (make : DisplayMaker) (old : LookState) (name : List ℕ) (between : LookState) : Type 0 where
  given : Answer
  applied : AppliesAtLooks make old (turn_of name) given between

turned_by : (make : DisplayMaker) (old between : LookState) (name own : List ℕ) (line : Option (List ℕ)) → line ≡ None
    → MatchOption line (NotedPerforms make old (turn_action name) own between) (λ l. (own ≡ l) × (between ≡ run_over old)) → Turned make old name between
unfolding NotedPerforms
turned_by make old between name own None e p = record { given = p.0; applied = p.1 }
turned_by make old between name own (Some l) e p = absurd (none-some l (sym e))

never : (old : LookState) (name : List ℕ) (line : Option (List ℕ)) → StopsWith stop.Never old.sources old.edf name line → line ≡ None
unfolding StopsWith
never old name line stops = stops

-- the line after the last turn changes neither the region nor the sources
record Same (old between : LookState) : Type 0 where
  edf : between.edf ≡ old.edf
  sources : between.sources ≡ old.sources

last : (make : DisplayMaker) (old between : LookState) (name own : List ℕ) (on : Bool) → MatchBool on (TakesOneMore make old name zero stop.Never own between) ((own ≡ []) × (between ≡ old))
    → Same old between
last make old between name own true p = record { edf = ap (λ (s : LookState). s.edf) p.1; sources = ap (λ (s : LookState). s.sources) p.1 }
last make old between name own false p = record { edf = ap (λ (s : LookState). s.edf) p.1; sources = ap (λ (s : LookState). s.sources) p.1 }

module _ (make : DisplayMaker) (name : List ℕ) (others : List LookAction) (events : List EdfEvent) (region : RegionState) (new : LookState)
    (rest : (mid : LookState) (text : List ℕ) → PerformsAll (LookPerforms make) mid others text new → Way make mid.edf events region → Led mid region new) where
  abbrev Ready : ℕ → LookState → Type 0
  Ready zero old = ⊤
  Ready (suc m) old = old.goes_on ≡ true

  abbrev turns_and : ℕ → List EdfEvent
  turns_and m = replicate m (turn_of name) ++ events

  ready : (m : ℕ) (given : Answer) (old between : LookState) → AppliesAtLooks make old (turn_of name) given between
      → KeepsOn (turn_of name) given between.edf (turns_and m) → Ready m between
  ready zero given old between applied keep = tt
  ready (suc m) given old between applied keep = applied.goes_on ∙ keep refl

  after_turn : (m : ℕ) (old between : LookState) (text : List ℕ)
      → ((t : List ℕ) → PerformsAll (LookPerforms make) between (turns_left name stop.Never m ++ others) t new → Ready m between → Way make between.edf (turns_and m) region → Led between region new)
      → Turned make old name between → PerformsAll (LookPerforms make) between (turns_left name stop.Never m ++ others) text new → Way make old.edf (turns_and (suc m)) region → Led old region new
  after_turn m old between text more t p way =
      let on = way t.given between.edf t.applied.noted.applies in
      let led = more text p (ready m t.given old between t.applied on.0) on.1 in
      record { is = led.is; sources = led.sources ∙ t.applied.sources }

  turns : (m : ℕ) (old : LookState) (text : List ℕ) → PerformsAll (LookPerforms make) old (turns_left name stop.Never m ++ others) text new → Ready m old
      → Way make old.edf (turns_and m) region → Led old region new
  unfolding PerformsAll turns_left Acts
  turns zero old text p on way =
      let same = last make old p.0 name p.3.own old.goes_on p.3.acts in
      let led = rest p.0 p.2 p.4 (subst (λ (s : EdfState). Way make s events region) (sym same.edf) way) in
      record { is = led.is; sources = led.sources ∙ same.sources }
  turns (suc m) old text p on way =
      let turn = by_bool old.goes_on _ _ p.3.acts on in
      after_turn m old p.0 p.2 (λ t q r w. turns m p.0 t q r w) (turned_by make old p.0 name p.3.own turn.line (never old name turn.line turn.stops) turn.does) p.4 way

leads : (make : DisplayMaker) (actions : List LookAction) (old new : LookState) (text : List ℕ) (region : RegionState) → AllByRecursion IsAsking actions
    → PerformsAll (LookPerforms make) old (flat_map look_actions_of actions) text new → Way make old.edf (flat_map asked_events actions) region → Led old region new
unfolding PerformsAll Acts NotedPerforms
leads make [] old new text region all p way = record { is = ap (λ (s : LookState). s.edf.region) p.1 ∙ way; sources = ap (λ (s : LookState). s.sources) p.1 }
leads make (action.Script (edf_action.Event e) ∷ actions) old new text region all p way =
    let acts = p.3.acts in
    let on = way acts.0 p.0.edf acts.1.noted.applies in
    let led = leads make actions p.0 new p.2 region all.1 p.4 on.1 in
    record { is = led.is; sources = led.sources ∙ acts.1.sources }
leads make (action.Script (edf_action.Image name image) ∷ actions) old new text region all p way = absurd all.0
leads make (action.Script (edf_action.Source name before image) ∷ actions) old new text region all p way = absurd all.0
leads make (action.Script (edf_action.Screen name) ∷ actions) old new text region all p way = absurd all.0
leads make (action.Script (edf_action.Display name) ∷ actions) old new text region all p way = absurd all.0
leads make (action.Script (edf_action.Previous name k) ∷ actions) old new text region all p way = absurd all.0
leads make (action.Source name lines a ∷ actions) old new text region all p way = absurd all.0
leads make (action.Run name zero stop.Never ∷ actions) old new text region all p way = absurd (omega (arith, all.0))
leads make (action.Run name (suc m) stop.Never ∷ actions) old new text region all p way =
    let same : suc m - 1 ≡ m = omega arith in
    let left = subst (λ (k : ℕ). PerformsAll (LookPerforms make) p.0 (turns_left name stop.Never k ++ flat_map look_actions_of actions) p.2 new) same p.4 in
    let turn = p.3.acts in
    let more = λ (mid : LookState) (t : List ℕ). leads make actions mid new t region all.1 in
    after_turn make name (flat_map look_actions_of actions) (flat_map asked_events actions) region new more m old p.0 p.2
    (turns make name (flat_map look_actions_of actions) (flat_map asked_events actions) region new more m p.0)
    (turned_by make old p.0 name p.3.own turn.line (never old name turn.line turn.stops) turn.does) left way
leads make (action.Run name n stop.BeforeAbend ∷ actions) old new text region all p way = absurd all.0
leads make (action.Run name n (stop.BeforeLine to) ∷ actions) old new text region all p way = absurd all.0
leads make (action.RunOn name n s ∷ actions) old new text region all p way = absurd all.0
leads make (action.Watch w ∷ actions) old new text region all p way = absurd all.0
leads make (action.Cover on ∷ actions) old new text region all p way = absurd all.0
leads make (action.Look l ∷ actions) old new text region all p way = absurd all.0
leads make (action.Orders block ∷ actions) old new text region all p way = absurd all.0
leads make (action.Choices block ∷ actions) old new text region all p way = absurd all.0
leads make (action.BadLook number s ∷ actions) old new text region all p way = absurd all.0

-- ---- EDF OFF
abbrev Silent : EdfState → List ℕ → Type 0
Silent state name = session_at state name ≡ None

record IsOff (old : EdfState) (name : List ℕ) (new : EdfState) : Type 0 where
  same : new.region ≡ old.region
  gone : Silent new name
  quiet : (q : List ℕ) → Silent old q → Silent new q

module _ (set : SessionsAreSet) (stay : OtherSessionsStay) where
  quiet_after : (old : EdfState) (name q : List ℕ) (b : Bool) → is_name name q ≡ b → Silent old q → session_in (with_session old.sessions name None) q ≡ None
  quiet_after old name q false apart none = stay old.sessions name q None apart ∙ none
  quiet_after old name q true same none =
      let is : name ≡ q = (is_name-decides name q).0 same in
      subst (λ (n : List ℕ). session_in (with_session old.sessions name None) n ≡ None) is (set old.sessions name None)

  off_session : (make : DisplayMaker) (old new : EdfState) (name : List ℕ) (given : Answer) (on : Option SessionState) → session_at old name ≡ on
      → DoorAnswers make old (if is_some on then Keeps (answer.Edf edf.Closed) (with_session old.sessions name None) else Keeps (answer.Edf edf.NotOn) old.sessions) given new
      → IsOff old name new
  off_session make old new name given None silent row =
      record {
        same = ap (λ (s : EdfState). s.region) row.1;
        gone = ap (λ (s : EdfState). session_at s name) row.1 ∙ silent;
        quiet = λ q none. ap (λ (s : EdfState). session_at s q) row.1 ∙ none;
      }
  off_session make old new name given (Some session) is row =
      record {
        same = ap (λ (s : EdfState). s.region) row.1;
        gone = ap (λ (s : EdfState). session_at s name) row.1 ∙ set old.sessions name None;
        quiet = λ q none. ap (λ (s : EdfState). session_at s q) row.1 ∙ quiet_after old name q (is_name name q) refl none;
      }

  off_there : (make : DisplayMaker) (old new : EdfState) (name : List ℕ) (given : Answer) (b : Bool) → b ≡ true
      → DoorAnswers make old
      (if not b then Keeps (answer.Edf edf.NoSuchTerminal) old.sessions
      else if is_some (session_at old name) then Keeps (answer.Edf edf.Closed) (with_session old.sessions name None)
      else Keeps (answer.Edf edf.NotOn) old.sessions) given new
      → IsOff old name new
  off_there make old new name given true e row = off_session make old new name given (session_at old name) refl row
  off_there make old new name given false e row = absurd (true≢false (sym e))

  off_done : (make : DisplayMaker) (old new : EdfState) (name : List ℕ) (given : Answer) → is_some (terminal_of old.region name) ≡ true → EdfApplies make old (edf_event.Off name) given new
      → IsOff old name new
  unfolding EdfApplies door_of
  off_done make old new name given there applied = off_there make old new name given (is_some (terminal_of old.region name)) there applied

  offs_way : (make : DisplayMaker) (edf : List (List ℕ)) (old : EdfState) (rest : List EdfEvent) (region : RegionState) → AllByRecursion (λ n. is_some (terminal_of old.region n) ≡ true) edf
      → ((new : EdfState) → new.region ≡ old.region → ((q : List ℕ) → Silent old q → Silent new q) → AllByRecursion (λ q. Silent new q) edf → Way make new rest region)
      → Way make old (map edf_event.Off edf ++ rest) region
  offs_way make [] old rest region there next = next old refl (λ q none. none) tt
  offs_way make (name ∷ edf) old rest region there next = λ given new applied.
      let off = off_done make old new name given there.0 applied in (
        tt,
        offs_way make edf new rest region (subst (λ (r : RegionState). AllByRecursion (λ n. is_some (terminal_of r n) ≡ true) edf) (sym off.same) there.1)
            (λ later same quiet gone. next later (same ∙ off.same) (λ q none. quiet q (off.quiet q none)) (quiet name off.gone, gone)),
      )

-- ---- turns and keys where EDF is off
abbrev event_name : Event → List ℕ
event_name (event.Turn name) = name
event_name (event.Key name aid bytes) = name
event_name _ = []

record IsPassed (old : EdfState) (e : Event) (given : Answer) (new : EdfState) : Type 0 where
  passed : Reply
  applies : Applies old.region e passed new.region
  same : new.sessions ≡ old.sessions
  answers : given ≡ answer.Region passed

not_stopped : (state : EdfState) (name : List ℕ) → Silent state name → stopped_at state name ≡ false
not_stopped state name none = ap (λ (o : Option SessionState). option_map_or (λ session. is_stopped session.mode) o false) none

not_own : (old : EdfState) (e : Event) → IsOrder e → Silent old (event_name e) → is_own old (edf_event.Plain e) ≡ false
unfolding is_own
not_own old (event.Turn name) order none = ap (λ b. b && is_some (task_of old.region name)) (not_stopped old name none)
not_own old (event.Key name aid bytes) order none = not_stopped old name none
not_own old (event.Program name image) order none = absurd order
not_own old (event.Transaction tran program) order none = absurd order
not_own old (event.Terminal name) order none = absurd order
not_own old (event.Clock time date) order none = absurd order
not_own old (event.Alter name change) order none = absurd order

unmoved : (sessions : Sessions) (e : Event) (r : Reply) (at : List ℕ → StopPoint → Display) → IsOrder e → session_in sessions (event_name e) ≡ None
    → sessions_after sessions e r at ≡ sessions
unmoved sessions (event.Turn name) (reply.Turn r) at order none =
    ap (λ (o : Option SessionState). option_map_or (λ session. with_session sessions name (Some (after_reply session r (at name)))) o sessions) none
unmoved sessions (event.Turn name) (reply.Program r) at order none = refl
unmoved sessions (event.Turn name) (reply.Transaction r) at order none = refl
unmoved sessions (event.Turn name) (reply.Terminal r) at order none = refl
unmoved sessions (event.Turn name) reply.Clock at order none = refl
unmoved sessions (event.Turn name) (reply.Key r) at order none = refl
unmoved sessions (event.Turn name) (reply.Alter r) at order none = refl
unmoved sessions (event.Key name aid bytes) r at order none = refl
unmoved sessions (event.Program name image) r at order none = absurd order
unmoved sessions (event.Transaction tran program) r at order none = absurd order
unmoved sessions (event.Terminal name) r at order none = absurd order
unmoved sessions (event.Clock time date) r at order none = absurd order
unmoved sessions (event.Alter name change) r at order none = absurd order

is_passed : (make : DisplayMaker) → OtherEventsArePassed → (old new : EdfState) (e : Event) (given : Answer) → IsOrder e → Silent old (event_name e) → EdfApplies make old (edf_event.Plain e) given new
    → IsPassed old e given new
unfolding EdfApplies
is_passed make law old new e given order none applied =
    let row : PassesOn make old e None given new =
    subst (λ (d : Door). DoorAnswers make old d given new) (law old e (not_own old e order none)) applied in
    record {
      passed = row.reply;
      applies = row.applies;
      same = row.table ∙ unmoved old.sessions e row.reply (make new.region) order none;
      answers = row.answers;
    }

-- a turn after which the task goes on
midway : (r : TurnReply) → is_move r ≡ true → is_over r ≡ false → is_midway (answer.Region (reply.Turn r)) ≡ true
midway turn.Idle move over = move
midway turn.NoSuchTerminal move over = move
midway turn.Waiting move over = move
midway turn.AtCommand move over = refl
midway (turn.Performed c) move over = refl
midway turn.Entered move over = refl
midway turn.Returned move over = refl
midway (turn.TookLabel c) move over = refl
midway (turn.TookExit code) move over = refl
midway turn.Ended move over = sym over
midway (turn.Abended code) move over = sym over

-- after one that ends the task the terminal has none
abbrev TurnFrom : RegionState → List ℕ → TurnReply → RegionState → Option TerminalState → Type 0
TurnFrom old name s new there =
    MatchOption there ((s ≡ turn.NoSuchTerminal) × (new ≡ old)) (λ t. MatchOption t.task ((s ≡ turn.Idle) × (new ≡ old)) (λ task. TaskTakesTurn old name t task s new))

idle_after : (old mid new : RegionState) (name : List ℕ) (r s : TurnReply) → is_move r ≡ true → is_over r ≡ true → TakesTurn old name r mid → TakesTurn mid name s new
    → s ≡ turn.Idle
unfolding TakesTurn
idle_after old mid new name r s move over p q = by_terminal (terminal_of old name) refl p
  where
    by_task : (t : TerminalState) (o : Option TaskState) → terminal_of old name ≡ Some t
        → MatchOption o ((r ≡ turn.Idle) × (mid ≡ old)) (λ task. TaskTakesTurn old name t task r mid) → s ≡ turn.Idle
    by_task t None there h = absurd (true≢false (sym move ∙ ap is_move h.0))
    by_task t (Some task) there h =
        let with_task = λ (o : Option TaskState). let left : TerminalState = record { entry = h.reached.terminal_entry; task = o } in left in
        let none : task_after r h.reached.task ≡ None = ap (λ (b : Bool). if b then None else Some h.reached.task) over in
        let gone : terminal_of mid name ≡ Some (with_task None) =
        ap (λ (x : RegionState). terminal_of x name) h.after
        ∙ lookup-set_value-same is_name is_name-laws old.terminals name t (with_task (task_after r h.reached.task)) there
        ∙ ap (λ (o : Option TaskState). Some (with_task o)) none in
        (subst (λ (there : Option TerminalState). TurnFrom mid name s new there) gone q).0

    by_terminal : (o : Option TerminalState) → terminal_of old name ≡ o → TurnFrom old name r mid o → s ≡ turn.Idle
    by_terminal None there h = absurd (true≢false (sym move ∙ ap is_move h.0))
    by_terminal (Some t) there h = by_task t t.task there h

-- the turn that a run begins with
record FirstTurn (old : RegionState) (name : List ℕ) : Type 0 where
  given : TurnReply
  after : RegionState
  takes : TakesTurn old name given after
  move : is_move given ≡ true

first_turn : (old : RegionState) (name : List ℕ) (events : List Event) (replies : List Reply) (region : RegionState) → AllByRecursion IsMoveReply replies
    → Run old (event.Turn name ∷ events) replies region → FirstTurn old name
unfolding Run Applies
first_turn old name events [] region moves run = absurd run
first_turn old name events (reply.Turn r ∷ replies) region moves run = record { given = r; after = run.0; takes = run.1; move = moves.0 }
first_turn old name events (_ ∷ replies) region moves run = absurd run.1

goes_on : (old : RegionState) (new : EdfState) (name : List ℕ) (given : Answer) (r : Reply) → Silent new name → given ≡ answer.Region r → IsMoveReply r
    → Applies old (event.Turn name) r new.region → FirstTurn new.region name → turn_goes_on new (turn_of name) given ≡ true
unfolding Applies
goes_on old new name given (reply.Turn a) none answers move takes next =
    ap (λ (g : Answer). is_midway g && not (stopped_at new name)) answers
    ∙ ap (λ (b : Bool). is_midway (answer.Region (reply.Turn a)) && not b) (not_stopped new name none)
    ∙ ap (λ (b : Bool). b && true) (midway a move (by (is_over a) refl))
  where
    by : (b : Bool) → is_over a ≡ b → is_over a ≡ false
    by false over = over
    by true over =
        let idle = idle_after old new.region next.after name a next.given move over takes next.takes in
        absurd (true≢false (sym next.move ∙ ap is_move idle))
goes_on old new name given _ none answers move takes next = absurd takes

keeps_on : (old : RegionState) (new : EdfState) (e : Event) (given : Answer) (r : Reply) (events : List Event) (replies : List Reply) (region : RegionState)
    → Silent new (event_name e) → given ≡ answer.Region r → IsMoveReply r → AllByRecursion IsMoveReply replies
    → Applies old e r new.region → Run new.region events replies region → KeepsOn (edf_event.Plain e) given new (map edf_event.Plain events)
keeps_on old new (event.Turn name) given r [] replies region none answers move moves one run = tt
keeps_on old new (event.Turn name) given r (event.Turn other ∷ events) replies region none answers move moves one run = λ same.
    goes_on old new name given r none answers move one
    (subst (λ (n : List ℕ). FirstTurn new.region n) (sym same) (first_turn new.region other events replies region moves run))
keeps_on old new (event.Turn name) given r (event.Key other aid bytes ∷ events) replies region none answers move moves one run = tt
keeps_on old new (event.Turn name) given r (event.Program other image ∷ events) replies region none answers move moves one run = tt
keeps_on old new (event.Turn name) given r (event.Transaction tran program ∷ events) replies region none answers move moves one run = tt
keeps_on old new (event.Turn name) given r (event.Terminal other ∷ events) replies region none answers move moves one run = tt
keeps_on old new (event.Turn name) given r (event.Clock time date ∷ events) replies region none answers move moves one run = tt
keeps_on old new (event.Turn name) given r (event.Alter other change ∷ events) replies region none answers move moves one run = tt
keeps_on old new (event.Key name aid bytes) given r events replies region none answers move moves one run = tt
keeps_on old new (event.Program name image) given r events replies region none answers move moves one run = tt
keeps_on old new (event.Transaction tran program) given r events replies region none answers move moves one run = tt
keeps_on old new (event.Terminal name) given r events replies region none answers move moves one run = tt
keeps_on old new (event.Clock time date) given r events replies region none answers move moves one run = tt
keeps_on old new (event.Alter name change) given r events replies region none answers move moves one run = tt

steps_way : (make : DisplayMaker) → EventsDecide → OtherEventsArePassed → (events : List Event) (replies : List Reply) (old : EdfState) (region : RegionState)
    → AllByRecursion IsOrder events → AllByRecursion IsMoveReply replies → AllByRecursion (λ e. Silent old (event_name e)) events → Run old.region events replies region
    → Way make old (map edf_event.Plain events) region
unfolding Run
steps_way make decide pass [] [] old region orders moves silent run = sym run
steps_way make decide pass [] (r ∷ replies) old region orders moves silent run = absurd run
steps_way make decide pass (e ∷ events) [] old region orders moves silent run = absurd run
steps_way make decide pass (e ∷ events) (r ∷ replies) old region orders moves silent run = λ given new applied.
    let it = is_passed make pass old new e given orders.0 silent.0 applied in
    let same = decide old.region e it.passed r new.region run.0 it.applies run.1 in
    let quiet = subst (λ (ss : Sessions). AllByRecursion (λ x. session_in ss (event_name x) ≡ None) (e ∷ events)) (sym it.same) silent in
    let one = subst (λ (x : RegionState). Applies old.region e r x) (sym same.1) run.1 in
    let left = subst (λ (x : RegionState). Run x events replies region) (sym same.1) run.2 in (
      keeps_on old.region new e given r events replies region quiet.0 (it.answers ∙ ap (λ (x : Reply). answer.Region x) same.0) moves.0 moves.1 one left,
      steps_way make decide pass events replies new region orders.1 moves.1 quiet.1 left,
    )

-- ---- the terminals of steps
at_place : (P : List ℕ → Type 0) (names : List (List ℕ)) (number : ℕ) (name : List ℕ) → AllByRecursion P names → slice_get names number ≡ Some name → P name
at_place P [] number name all at = absurd (none-some name at)
at_place P (n ∷ names) zero name all at = subst P (same_Some n name at) all.0
at_place P (n ∷ names) (suc number) name all at = at_place P names number name all.1 at

module _ (P : List ℕ → Type 0) (names : List (List ℕ)) (keys : List KeyLine) (all : AllByRecursion P names) where
  of_key : (name : List ℕ) (x : Event) (key : Option KeyLine) → option_map (λ (k : KeyLine). event.Key name k.aid k.bytes) key ≡ Some x → name ≡ event_name x
  of_key name x None is = absurd (none-some x is)
  of_key name x (Some key) is = ap event_name (same_Some (event.Key name key.aid key.bytes) x is)

  of_event : (name : List ℕ) (x : Event) (key : Option ℕ) → event_at keys name key ≡ Some x → name ≡ event_name x
  of_event name x None is = ap event_name (same_Some (event.Turn name) x is)
  of_event name x (Some came) is = of_key name x (slice_get (keys_of keys name) came) is

  of_step : (step : Step) (x : Event) (o : Option (List ℕ)) → slice_get names step.number ≡ o → option_and_then (λ n. event_at keys n step.key) o ≡ Some x → P (event_name x)
  of_step step x None at is = absurd (none-some x is)
  of_step step x (Some name) at is = subst P (of_event name x step.key is) (at_place P names step.number name all at)

  of_steps : (steps : List Step) (events : List Event) → map (event_of_step names keys) steps ≡ map Some events → AllByRecursion (λ x. P (event_name x)) events
  of_steps [] [] e = tt
  of_steps [] (x ∷ events) e = absurd (none-some (Some x) (ap (λ l. slice_get l 0) e))
  of_steps (step ∷ steps) [] e = absurd (none-some (event_of_step names keys step) (sym (ap (λ l. slice_get l 0) e)))
  of_steps (step ∷ steps) (x ∷ events) e =
      let first = same_Some (event_of_step names keys step) (Some x) (ap (λ l. slice_get l 0) e) in
      (of_step step x (slice_get names step.number) refl first, of_steps steps events (ap (λ l. drop 1 l) e))

-- each of them is defined
abbrev IsDefined : Terminals → List ℕ → Type 0
IsDefined ts name = is_some (lookup (is_name name) ts) ≡ true

found_too : (b : Bool) (t : TerminalState) (o : Option TerminalState) → is_some o ≡ true → is_some (cond b (Some t) o) ≡ true
found_too true t o h = refl
found_too false t o h = h

one_more : (t : List ℕ × TerminalState) (ts : Terminals) (names : List (List ℕ)) → AllByRecursion (λ n. IsDefined ts n) names → AllByRecursion (λ n. IsDefined (t ∷ ts) n) names
one_more t ts [] all = tt
one_more t ts (n ∷ names) all = (found_too (is_name n t.0) t.1 (lookup (is_name n) ts) all.0, one_more t ts names all.1)

all_defined : (ts : Terminals) → AllByRecursion (λ n. IsDefined ts n) (names_of ts)
all_defined [] = tt
all_defined (t ∷ ts) =
    (ap (λ (b : Bool). is_some (cond b (Some t.1) (lookup (is_name t.0) ts))) (is_name-laws.refl t.0), one_more t ts (names_of ts) (all_defined ts))

-- ---- those with EDF, and the others
filtered : (P : List ℕ → Type 0) (p : List ℕ → Bool) (names : List (List ℕ)) → AllByRecursion P names → AllByRecursion P (filter p names)
filtered P p [] all = tt
filtered P p (name ∷ names) all = by (p name) (filtered P p names all.1)
  where
    by : (b : Bool) → AllByRecursion P (filter p names) → AllByRecursion P (cond b (name ∷ filter p names) (filter p names))
    by true others = (all.0, others)
    by false others = others

all_silent : (old new : EdfState) (names : List (List ℕ)) → ((q : List ℕ) → Silent old q → Silent new q)
    → AllByRecursion (λ q. Silent new q) (filter (λ name. is_some (session_at old name)) names) → AllByRecursion (λ q. Silent new q) names
all_silent old new [] quiet gone = tt
all_silent old new (name ∷ names) quiet gone = by (session_at old name) refl (λ later. all_silent old new names quiet later) gone
  where
    rest : List (List ℕ)
    rest = filter (λ n. is_some (session_at old n)) names

    by : (o : Option SessionState) → session_at old name ≡ o → (AllByRecursion (λ q. Silent new q) rest → AllByRecursion (λ q. Silent new q) names)
        → AllByRecursion (λ q. Silent new q) (cond (is_some o) (name ∷ rest) rest) → AllByRecursion (λ q. Silent new q) (name ∷ names)
    by None is more gone = (quiet name is, more gone)
    by (Some session) is more gone = (gone.0, more gone.1)

-- ---- what is seen there
look_seen : (state new : LookState) (region : RegionState) (l : Look) (lines : Lines) → new.edf.region ≡ region → new.sources ≡ state.sources → is_of_region l ≡ true
    → AreLookLines l (at_region state region) lines → AreLookLines l new lines
look_seen state new region l lines there sources is shown =
    let same : seen_as (at_region state region) new ≡ new =
    λ i. record new { edf = record new.edf { region = sym there i }; sources = sym sources i } in
    subst (λ (s : LookState). AreLookLines l s lines) same (same_lines l (at_region state region) new lines (λ no. absurd (true≢false (sym is ∙ no))) shown)

one_seen : (state new : LookState) (region : RegionState) (s : Sight) (lines : Lines) → new.edf.region ≡ region → new.sources ≡ state.sources → IsOfRegion s
    → IsSeen (λ (l : Look) (ls : Lines). AreLookLines l (at_region state region) ls) region s lines
    → IsSeen (λ (l : Look) (ls : Lines). AreLookLines l new ls) new.edf.region s lines
unfolding IsSeen
one_seen state new region (sight.Screen name) lines there sources is shown =
    shown ∙ ap (λ (r : RegionState). lines_met AtEnd (screen_text r name) ++ hidden_rows r name) (sym there)
one_seen state new region (sight.Look l) lines there sources is shown =
    record {
      first = shown.first;
      is = look_seen state new region l shown.first there sources is shown.is;
      others = shown.others;
      rest = shown.rest ∙ ap (λ (r : RegionState). hidden_lines r l) (sym there);
      whole = shown.whole;
    }

all_seen : (state new : LookState) (region : RegionState) (sights : List Sight) (lines : Lines) → new.edf.region ≡ region → new.sources ≡ state.sources
    → AllByRecursion IsOfRegion sights → AreSeen (λ (l : Look) (ls : Lines). AreLookLines l (at_region state region) ls) region sights lines
    → AreSeen (λ (l : Look) (ls : Lines). AreLookLines l new ls) new.edf.region sights lines
unfolding AreSeen
all_seen state new region [] lines there sources is shown = shown
all_seen state new region (s ∷ sights) lines there sources is shown =
    record {
      first = shown.first;
      is = one_seen state new region s shown.first there sources is.0 shown.is;
      others = shown.others;
      rest = all_seen state new region sights shown.others there sources is.1 shown.rest;
      whole = shown.whole;
    }

-- ---- the whole
pub scripts_lead : ShownAsItself → ScriptsAskForSteps → EventsDecide → OtherEventsArePassed → SessionsAreSet → OtherSessionsStay → ScriptsLeadThere
scripts_lead itself scripts decide pass set stay make state keys steps to spelled read run =
    let old : EdfState = state.edf in
    let terminals : Terminals = old.region.terminals in
    let off : List (List ℕ) = names_with_edf old in
    let is_on : List ℕ → Bool = λ name. is_some (session_at old name) in
    let asks = scripts_asks itself scripts old.region keys off steps run.events spelled (filtered HasSpelling is_on (names_of terminals) spelled) read run.are in
    let way : Way make old (map edf_event.Off off ++ map edf_event.Plain run.events) to.region =
    offs_way set stay make off old (map edf_event.Plain run.events) to.region
    (filtered (λ n. IsDefined terminals n) is_on (names_of terminals) (all_defined terminals))
    (λ mid same quiet gone.
    steps_way make decide pass run.events run.replies mid to.region run.orders run.moves
    (of_steps (λ q. Silent mid q) (names_of terminals) keys (all_silent old mid (names_of terminals) quiet gone) steps run.events run.are)
    (subst (λ (r : RegionState). Run r run.events run.replies to.region) (sym same) run.run)) in
    record {
      asked = asks.asked;
      lead = λ text new p.
          let led = leads make asks.asked.actions state new text to.region asks.each p (subst (λ (es : List EdfEvent). Way make old es to.region) (sym asks.asked.ask) way) in
          record {
            is = led.is;
            seen = λ sights lines is shown. all_seen state new to.region sights lines led.is led.sources is shown;
          };
    }
