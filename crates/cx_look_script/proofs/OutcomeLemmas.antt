-- An action of a script with looks has one outcome, and so has a script.
use Rattle.std.proofs.Common.{◌≡◌, ℕ, zero, suc, Bool, true, false, MatchBool, Option, Some, None, List, [], ◌∷◌, ◌++◌, Result, Ok, Err, sym, ap, subst, ◌∙◌}
use Rattle.std.specs.Prelude.{MatchOption}
use Rattle.std.specs.Result.{result_err}
use Rattle.std.specs.List.{IsDistinct}
use Rattle.cx_ebcdic.specs.Names.{is_name}
use Rattle.cx_edf.specs.State.{EdfState}
use Rattle.cx_exec.specs.Machine.{Machine}
use Rattle.cx_region_task.specs.Turn.{most_steps}
use Rattle.cx_exec_laws.specs.Laws.Passages.{TalliesDecide}
use Rattle.cx_exec.specs.declared.tallied.Tally.{Tally}
use Rattle.cx_look_cover.specs.Tallies.{programs_end, reaching}
use Rattle.cx_look_script.specs.Covered.{Covers, machine_run}
use Rattle.cx_edf.specs.declared.answers.Answer.{Answer}
use Rattle.cx_edf.specs.declared.answers.EdfEvent.{EdfEvent}
use Rattle.cx_edf.specs.Steps.{DisplayMaker}
use Rattle.cx_region_laws.specs.Laws.Alterations.{AlterationsKeepToTheirTask}
use Rattle.cx_region_laws.specs.Laws.Regions.{KeysKeepToTheirTerminal, TurnsKeepToTheirTask}
use Rattle.cx_script_actions.specs.Effects.{Performs}
use Rattle.cx_script_actions.specs.Texts.{answer_text}
use Rattle.cx_script_actions.specs.declared.actions.Action.{Action}
use Rattle.cx_script_actions.specs.declared.actions.Action.TheVariants as edf_action
use Rattle.cx_script_blocks.specs.declared.faults.RunFault.{RunFault}
use Rattle.cx_script_blocks.specs.declared.faults.RunFault.TheVariants.{BadLine, BadLook, Source, Read, Write, Memory, ReadBound}
use Rattle.cx_script_blocks.specs.declared.faults.Summary.{Summary}
use Rattle.cx_script_io.specs.Calls.{taken}
use Rattle.cx_script_io.specs.declared.input.Ending.{Ending}
use Rattle.cx_script.specs.Laws.Inputs.{was_stopped}
use Rattle.cx_script.specs.Script.{script_in}
use Rattle.cx_script.specs.Transcript.{EndsScript, PerformsAll, Wrote}
use Rattle.cx_look_abend.specs.Laws.{NotedDecide}
use Rattle.cx_look_script.specs.Laws.Looks.{LooksAreReportedOnce, turn_action}
use Rattle.cx_look_script.specs.Laws.Choices.{ChoicesAreReportedOnce}
use Rattle.cx_look_script.specs.Laws.Orders.{OrdersAreReportedOnce}
use Rattle.cx_look_script.specs.Laws.Outcomes.{HasApartNames, LookActionsDecide, LookInputsDecide, LookTranscriptsDecide}
use Rattle.cx_look_script.specs.Laws.Turns.{StopsDecide}
use Rattle.cx_look_script.specs.Laws.Watches.{WatchedTextsDecide}
use Rattle.cx_look_script.specs.Looking.{Acts, LookPerforms, NotedPerforms, RunsTurn, TakesOneMore}
use Rattle.cx_look_script.specs.Reading.{look_language}
use Rattle.cx_look_script.specs.Runs.{AppliesAtLooks, run_over, turn_goes_on}
use Rattle.cx_look_script.specs.Sources.{with_source}
use Rattle.cx_look_script.specs.State.{LookState, fresh_look_state}
use Rattle.cx_look_script.specs.Watched.{IsWatchedText, cause_of}
use Rattle.cx_look_script.specs.declared.action.LookAction.{LookAction}
use Rattle.cx_look_script.specs.declared.action.LookAction.TheVariants as action
use Rattle.cx_look_script.specs.declared.action.Stop.{Stop}
use Rattle.cx_look_script.proofs.NameLemmas.{AnyName, any_asked, distinct_added, one_kept}

-- two states with the same parts are the same
same_state : (one other : LookState) → one.edf ≡ other.edf → one.abends ≡ other.abends → one.sources ≡ other.sources → one.watched ≡ other.watched → one.covered ≡ other.covered → one.goes_on ≡ other.goes_on
    → one ≡ other
same_state one other edf abends sources watched covered on =
    λ i. record { edf = edf i; abends = abends i; sources = sources i; watched = watched i; covered = covered i; goes_on = on i }

-- what is counted is one
covers_once : TalliesDecide → (m : Option Machine) (end : ℕ) (old new other : Option (List Tally)) → Covers m end old new → Covers m end old other
    → new ≡ other
unfolding Covers
covers_once law m end None new other p q = p ∙ sym q
covers_once law None end (Some tallies) new other p q = p.2 ∙ ap Some (p.1 ∙ sym q.1) ∙ sym q.2
covers_once law (Some m) end (Some tallies) new other p q =
    p.2 ∙ ap Some (law most_steps m (reaching tallies end) p.0 q.0 p.1 q.1) ∙ sym q.2

-- ---- one action
abbrev Twice : List ℕ → List ℕ → LookState → LookState → Type 0
Twice text other new another = (text ≡ other) × (new ≡ another)

module _ (noted : NotedDecide) (edf_actions : (make : DisplayMaker) (old : EdfState) (a : Action) (text other : List ℕ) (new another : EdfState) → Performs make old a text new → Performs make old a other another → (text ≡ other) × (new ≡ another))
    (stops : StopsDecide) (looks : LooksAreReportedOnce) (orders : OrdersAreReportedOnce) (choices : ChoicesAreReportedOnce) (watched : WatchedTextsDecide) (tallies : TalliesDecide) where
  -- an event
  applies_once : (make : DisplayMaker) (old new another : LookState) (e : EdfEvent) (given other : Answer) → AppliesAtLooks make old e given new → AppliesAtLooks make old e other another
      → (given ≡ other) × (new ≡ another)
  applies_once make old new another e given other p q =
      let same = noted make old.edf new.edf another.edf old.abends new.abends another.abends e given other p.noted q.noted in
      let on : turn_goes_on new.edf e given ≡ turn_goes_on another.edf e other =
      ap (λ (s : EdfState). turn_goes_on s e given) same.1 ∙ ap (λ (g : Answer). turn_goes_on another.edf e g) same.0 in (
        same.0,
        same_state new another same.1 same.2 (p.sources ∙ sym q.sources) (p.watched ∙ sym q.watched)
            (covers_once tallies (machine_run old.edf e) (programs_end old.edf.region.shared.programs) old.covered new.covered another.covered p.covered q.covered) (p.goes_on ∙ on ∙ sym q.goes_on),
      )

  -- any other action of `cicsedf`
  plain_once : (make : DisplayMaker) (old new another : LookState) (a : Action) (text other : List ℕ) → Performs make old.edf a text new.edf → Performs make old.edf a other another.edf
      → new.abends ≡ another.abends → new.sources ≡ another.sources → new.watched ≡ another.watched → new.covered ≡ another.covered → new.goes_on ≡ another.goes_on → Twice text other new another
  plain_once make old new another a text other p q abends sources ranges counts on =
      let same = edf_actions make old.edf a text other new.edf another.edf p q in
      (same.0, same_state new another same.1 abends sources ranges counts on)

  noted_once : (make : DisplayMaker) (old new another : LookState) (a : Action) (text other : List ℕ) → NotedPerforms make old a text new → NotedPerforms make old a other another → Twice text other new another
  unfolding NotedPerforms
  noted_once make old new another (edf_action.Event e) text other p q =
      let same = applies_once make old new another e p.0 q.0 p.1 q.1 in
      (p.2 ∙ ap (λ (g : Answer). answer_text e g) same.0 ∙ sym q.2, same.1)
  noted_once make old new another (edf_action.Image name image) text other p q =
      plain_once make old new another (edf_action.Image name image) text other p.0 q.0 (p.1 ∙ sym q.1) (p.2 ∙ sym q.2) (p.3 ∙ sym q.3) (p.4 ∙ sym q.4) (p.5 ∙ sym q.5)
  noted_once make old new another (edf_action.Source name before image) text other p q =
      plain_once make old new another (edf_action.Source name before image) text other p.0 q.0 (p.1 ∙ sym q.1) (p.2 ∙ sym q.2) (p.3 ∙ sym q.3) (p.4 ∙ sym q.4) (p.5 ∙ sym q.5)
  noted_once make old new another (edf_action.Screen name) text other p q =
      plain_once make old new another (edf_action.Screen name) text other p.0 q.0 (p.1 ∙ sym q.1) (p.2 ∙ sym q.2) (p.3 ∙ sym q.3) (p.4 ∙ sym q.4) (p.5 ∙ sym q.5)
  noted_once make old new another (edf_action.Display name) text other p q =
      plain_once make old new another (edf_action.Display name) text other p.0 q.0 (p.1 ∙ sym q.1) (p.2 ∙ sym q.2) (p.3 ∙ sym q.3) (p.4 ∙ sym q.4) (p.5 ∙ sym q.5)
  noted_once make old new another (edf_action.Previous name k) text other p q =
      plain_once make old new another (edf_action.Previous name k) text other p.0 q.0 (p.1 ∙ sym q.1) (p.2 ∙ sym q.2) (p.3 ∙ sym q.3) (p.4 ∙ sym q.4) (p.5 ∙ sym q.5)

  -- a turn of RUN, or the line in its place
  turn_by : (make : DisplayMaker) (old new another : LookState) (name text other : List ℕ) (line : Option (List ℕ))
      → MatchOption line (NotedPerforms make old (turn_action name) text new) (λ l. (text ≡ l) × (new ≡ run_over old))
      → MatchOption line (NotedPerforms make old (turn_action name) other another) (λ l. (other ≡ l) × (another ≡ run_over old))
      → Twice text other new another
  turn_by make old new another name text other None p q = noted_once make old new another (turn_action name) text other p q
  turn_by make old new another name text other (Some l) p q = (p.0 ∙ sym q.0, p.1 ∙ sym q.1)

  turn_once : (make : DisplayMaker) (old new another : LookState) (name : List ℕ) (s : Stop) (text other : List ℕ) → RunsTurn make old name s text new → RunsTurn make old name s other another
      → Twice text other new another
  turn_once make old new another name s text other p q =
      let same = stops s old.sources old.edf name q.line p.line q.stops p.stops in
      turn_by make old new another name text other p.line p.does
      (subst (λ (line : Option (List ℕ)). MatchOption line (NotedPerforms make old (turn_action name) other another) (λ l. (other ≡ l) × (another ≡ run_over old))) same q.does)

  more_once : (make : DisplayMaker) (old new another : LookState) (name : List ℕ) (n : ℕ) (s : Stop) (text other : List ℕ) (on : Bool)
      → MatchBool on (TakesOneMore make old name n s text new) ((text ≡ []) × (new ≡ old))
      → MatchBool on (TakesOneMore make old name n s other another) ((other ≡ []) × (another ≡ old)) → Twice text other new another
  more_once make old new another name zero s text other true p q = (p.0 ∙ sym q.0, p.1 ∙ sym q.1)
  more_once make old new another name (suc n) s text other true p q = turn_once make old new another name s text other p q
  more_once make old new another name n s text other false p q = (p.0 ∙ sym q.0, p.1 ∙ sym q.1)

  acts_once : (make : DisplayMaker) (old new another : LookState) (a : LookAction) (text other : List ℕ) → HasApartNames old.edf.region → Acts make old a text new → Acts make old a other another
      → Twice text other new another
  unfolding Acts
  acts_once make old new another (action.Script a) text other apart p q = noted_once make old new another a text other p q
  acts_once make old new another (action.Source name lines a) text other apart p q =
      let same = noted_once make old p.done q.done a text other p.performs q.performs in
      (same.0, p.keeps ∙ ap (λ (s : LookState). with_source old name lines s) same.1 ∙ sym q.keeps)
  acts_once make old new another (action.Run name n s) text other apart p q = turn_once make old new another name s text other p q
  acts_once make old new another (action.RunOn name n s) text other apart p q = more_once make old new another name n s text other old.goes_on p q
  acts_once make old new another (action.Watch w) text other apart p q = (p.0 ∙ sym q.0, p.1 ∙ sym q.1)
  acts_once make old new another (action.Cover on) text other apart p q = (p.0 ∙ sym q.0, p.1 ∙ sym q.1)
  acts_once make old new another (action.Look l) text other apart p q = (looks l old text other p.0 q.0, p.1 ∙ sym q.1)
  acts_once make old new another (action.Orders block) text other apart p q = (orders block old text other apart p.0 q.0, p.1 ∙ sym q.1)
  acts_once make old new another (action.Choices block) text other apart p q = (choices block old text other p.0 q.0, p.1 ∙ sym q.1)
  acts_once make old new another (action.BadLook number s) text other apart p q = (p.0 ∙ sym q.0, p.1 ∙ sym q.1)

  pub actions_decide : LookActionsDecide
  actions_decide make old a text other new another apart p q =
      let same = acts_once make old new another a p.own q.own apart p.acts q.acts in
      let shown = watched old another (cause_of a) p.watched q.watched
      (subst (λ (s : LookState). IsWatchedText old (cause_of a) s p.watched) same.1 p.shown) q.shown in
      (p.is ∙ ap (λ l. l ++ p.watched) same.0 ∙ ap (λ l. q.own ++ l) shown ∙ sym q.is, same.1)

-- ---- one after another
module _ (decide : LookActionsDecide) (turned : TurnsKeepToTheirTask) (keyed : KeysKeepToTheirTerminal) (altered : AlterationsKeepToTheirTask) where
  apart_kept : (make : DisplayMaker) (old new : LookState) (a : LookAction) (text : List ℕ) → LookPerforms make old a text new → HasApartNames old.edf.region → HasApartNames new.edf.region
  apart_kept make old new a text p apart =
      one_kept (λ names. IsDistinct is_name names) AnyName distinct_added turned keyed altered make old new a text (any_asked a) p apart

  pub transcripts_decide : LookTranscriptsDecide
  unfolding PerformsAll
  transcripts_decide make old [] text other new another apart p q = (p.0 ∙ sym q.0, p.1 ∙ sym q.1)
  transcripts_decide make old (a ∷ actions) text other new another apart p q =
      let head = decide make old a p.1 q.1 p.0 q.0 apart p.3 q.3 in
      let moved = subst (λ (s : LookState). PerformsAll (LookPerforms make) s actions p.2 new) head.1 p.4 in
      let rest = transcripts_decide make q.0 actions p.2 q.2 new another (apart_kept make old q.0 a q.1 q.3 apart) moved q.4 in
      (p.5 ∙ ap (λ l. l ++ p.2) head.0 ∙ ap (λ l. q.1 ++ l) rest.0 ∙ sym q.5, rest.1)

-- ---- a script
-- the fault of a run that was not stopped, and what it wrote
record Reported (make : DisplayMaker) (ending : Ending) (bytes : List ℕ) (answer : Result Summary RunFault) (written : List ℕ) : Type 0 where
  fault : result_err answer ≡ (script_in look_language ending bytes).fault
  wrote : Wrote (◌≡◌ written) (LookPerforms make) fresh_look_state (script_in look_language ending bytes).actions

reported : (make : DisplayMaker) (ending : Ending) (bytes : List ℕ) (answer : Result Summary RunFault) (written : List ℕ) → was_stopped answer ≡ false
    → EndsScript look_language (LookPerforms make) fresh_look_state ending bytes answer written → Reported make ending bytes answer written
unfolding EndsScript
reported make ending bytes (Ok summary) written e s = record { fault = sym s.0; wrote = s.2 }
reported make ending bytes (Err (BadLine n)) written e s = record { fault = sym s.0; wrote = s.1 }
reported make ending bytes (Err (BadLook n)) written e s = record { fault = sym s.0; wrote = s.1 }
reported make ending bytes (Err (Source n which)) written e s = record { fault = sym s.0; wrote = s.1 }
reported make ending bytes (Err Read) written e s = record { fault = sym s.0; wrote = s.1 }
reported make ending bytes (Err ReadBound) written e s = record { fault = sym s.0; wrote = s.1 }
reported make ending bytes (Err Write) written e s = cc
reported make ending bytes (Err Memory) written e s = cc

-- where both have the script's fault, the answers are the same
same_answer : (make : DisplayMaker) (ending : Ending) (bytes : List ℕ) (answer other : Result Summary RunFault) (written later : List ℕ)
    → EndsScript look_language (LookPerforms make) fresh_look_state ending bytes answer written → EndsScript look_language (LookPerforms make) fresh_look_state ending bytes other later
    → result_err answer ≡ result_err other → answer ≡ other
unfolding EndsScript
same_answer make ending bytes (Ok s) (Ok t) written later p q e = ap (λ (n : ℕ). let s : Summary = record { lines = n } in let r : Result Summary RunFault = Ok s in r) (p.1 ∙ sym q.1)
same_answer make ending bytes (Ok s) (Err g) written later p q e = cc
same_answer make ending bytes (Err f) (Ok t) written later p q e = cc
same_answer make ending bytes (Err f) (Err g) written later p q e = let same : f ≡ g = cc in ap Err same

fresh_apart : HasApartNames fresh_look_state.edf.region
unfolding IsDistinct
fresh_apart = tt

pub inputs_decide : LookTranscriptsDecide → LookInputsDecide
inputs_decide law make ending bytes calls others answer other s t r q e f =
    let first = s.ends ending bytes r in
    let second = t.ends ending bytes q in
    let one = reported make ending bytes answer (taken calls) e first in
    let two = reported make ending bytes other (taken others) f second in
    let actions = (script_in look_language ending bytes).actions in
    let same = law make fresh_look_state actions one.wrote.text two.wrote.text one.wrote.new two.wrote.new fresh_apart one.wrote.runs two.wrote.runs in (
      same_answer make ending bytes answer other (taken calls) (taken others) first second (one.fault ∙ sym two.fault),
      one.wrote.written ∙ same.0 ∙ sym two.wrote.written,
    )
