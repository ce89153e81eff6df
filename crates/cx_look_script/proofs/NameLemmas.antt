-- The names of the terminals along a script: a definition adds one, and nothing else changes them.
use Rattle.std.proofs.Common.{◌≡◌, ℕ, ◌+◌, zero, suc, Bool, true, false, MatchBool, Option, Some, None, List, [], ◌∷◌, ◌++◌, length, refl, sym, ap, subst}
use Rattle.std.specs.Prelude.{⊤, MatchOption, Result, Ok, Err, if◌then◌else◌, is_some, not, ◌&&◌}
use Rattle.std.specs.List.{AllByRecursion, IsDistinct}
use Rattle.std.specs.Map.{keys_of as names_of, lookup}
use Rattle.std.proofs.lemmas.Option.{none-some}
use Rattle.indexmap.specs.IndexMap.{insert_entry}
use Rattle.cx_base.specs.Facts.Tables.{distinct-insert_entry, insert_entry_absent}
use Rattle.cx_code.specs.declared.image.Image.{Image}
use Rattle.cx_ebcdic.specs.Facts.Names.{is_name-laws}
use Rattle.cx_ebcdic.specs.Names.{is_name}
use Rattle.cx_load.specs.Fault.{image_fault}
use Rattle.cx_load.specs.declared.fault.ImageFault.{ImageFault}
use Rattle.cx_load.specs.declared.program.Loaded.{Loaded}
use Rattle.cx_region.specs.Attach.{input_from}
use Rattle.cx_region.specs.Defining.{DefinesProgram, DefinesTerminal, DefinesTransaction, LoadsProgram, entry_fault, program_fault, terminal_fault, transaction_fault}
use Rattle.cx_region.specs.Events.{Applies}
use Rattle.cx_region.specs.State.{RegionState, TerminalState}
use Rattle.cx_region.specs.Tables.{fresh_terminal, terminal_of}
use Rattle.cx_region.specs.declared.replies.DefineFault.{DefineFault}
use Rattle.cx_region.specs.declared.replies.DefineFault.TheVariants.{Duplicate, NoRoom}
use Rattle.cx_region.specs.declared.replies.Event.{Event}
use Rattle.cx_region.specs.declared.replies.Event.TheVariants as event
use Rattle.cx_region.specs.declared.replies.Reply.{Reply}
use Rattle.cx_region.specs.declared.replies.Reply.TheVariants as reply
use Rattle.cx_region_laws.specs.Laws.Alterations.{AlterationsKeepToTheirTask}
use Rattle.cx_region_laws.specs.Laws.Regions.{KeysKeepToTheirTerminal, TurnsKeepToTheirTask}
use Rattle.cx_edf.specs.State.{EdfState, ends_by_key, holds, session_at, stopped_at}
use Rattle.cx_edf.specs.Steps.{DisplayMaker, Door, DoorAnswers, EdfApplies, Keeps, Passes, door_of}
use Rattle.cx_edf.specs.declared.answers.Answer.{Answer}
use Rattle.cx_edf.specs.declared.answers.EdfEvent.{EdfEvent}
use Rattle.cx_edf.specs.declared.answers.EdfEvent.TheVariants as edf_event
use Rattle.cx_script_actions.specs.Effects.{ByFault, Performs, Replies}
use Rattle.cx_script_actions.specs.declared.actions.Action.{Action}
use Rattle.cx_script_actions.specs.declared.actions.Action.TheVariants as edf_action
use Rattle.cx_script.specs.Transcript.{PerformsAll}
use Rattle.cx_look_script.specs.Laws.Looks.{turn_action}
use Rattle.cx_look_script.specs.Laws.Orders.{HasSpelling}
use Rattle.cx_look_script.specs.Looking.{Acts, LookPerforms, NotedPerforms, TakesOneMore}
use Rattle.cx_look_script.specs.Runs.{run_over}
use Rattle.cx_look_script.specs.State.{LookState}
use Rattle.cx_look_script.specs.declared.action.LookAction.{LookAction}
use Rattle.cx_look_script.specs.declared.action.LookAction.TheVariants as action
use Rattle.cx_look_script.specs.declared.action.Stop.{Stop}
use Rattle.cx_look_script.proofs.LawLemmas.{performs}

abbrev pub Terminals : Type 0
Terminals = List (List ℕ × TerminalState)

-- ---- what may be done where each new name must be such a one
module _ (May : List ℕ → Type 0) where
  abbrev pub MayDo : Event → Type 0
  MayDo (event.Terminal name) = May name
  MayDo _ = ⊤

  abbrev pub MayDoEdf : EdfEvent → Type 0
  MayDoEdf (edf_event.Plain e) = MayDo e
  MayDoEdf _ = ⊤

  abbrev pub MayAct : Action → Type 0
  MayAct (edf_action.Event e) = MayDoEdf e
  MayAct _ = ⊤

  abbrev pub MayAsk : LookAction → Type 0
  MayAsk (action.Script a) = MayAct a
  MayAsk (action.Source name lines a) = MayAct a
  MayAsk _ = ⊤

-- another name may be added wherever this one may
module _ (May Also : List ℕ → Type 0) (also : (name : List ℕ) → May name → Also name) where
  do_too : (e : Event) → MayDo May e → MayDo Also e
  do_too (event.Terminal name) may = also name may
  do_too (event.Program name image) may = tt
  do_too (event.Transaction name program) may = tt
  do_too (event.Clock time date) may = tt
  do_too (event.Key name aid bytes) may = tt
  do_too (event.Turn name) may = tt
  do_too (event.Alter name change) may = tt

  do_edf_too : (e : EdfEvent) → MayDoEdf May e → MayDoEdf Also e
  do_edf_too (edf_event.Plain e) may = do_too e may
  do_edf_too (edf_event.On name) may = tt
  do_edf_too (edf_event.Off name) may = tt

  pub act_too : (a : Action) → MayAct May a → MayAct Also a
  act_too (edf_action.Event e) may = do_edf_too e may
  act_too (edf_action.Image name image) may = tt
  act_too (edf_action.Source name before image) may = tt
  act_too (edf_action.Screen name) may = tt
  act_too (edf_action.Display name) may = tt
  act_too (edf_action.Previous name k) may = tt

-- ---- what holds of the names, and goes on to hold with one more
module _ (P : List (List ℕ) → Type 0) (May : List ℕ → Type 0)
    (add : (ts : Terminals) (name : List ℕ) (t : TerminalState) → May name → lookup (is_name name) ts ≡ None → P (names_of ts) → P (names_of (insert_entry is_name ts name t)))
    (turned : TurnsKeepToTheirTask) (keyed : KeysKeepToTheirTerminal) (altered : AlterationsKeepToTheirTask) where
  same_names : (old new : RegionState) → names_of new.terminals ≡ names_of old.terminals → P (names_of old.terminals) → P (names_of new.terminals)
  same_names old new e held = subst P (sym e) held

  same_region : (old new : RegionState) → new ≡ old → P (names_of old.terminals) → P (names_of new.terminals)
  same_region old new e held = subst (λ (r : RegionState). P (names_of r.terminals)) (sym e) held

  same_state : (old new : EdfState) → new ≡ old → P (names_of old.region.terminals) → P (names_of new.region.terminals)
  same_state old new e held = subst (λ (s : EdfState). P (names_of s.region.terminals)) (sym e) held

  same_look : (old new : LookState) → new ≡ old → P (names_of old.edf.region.terminals) → P (names_of new.edf.region.terminals)
  same_look old new e held = subst (λ (s : LookState). P (names_of s.edf.region.terminals)) (sym e) held

  program_kept : (old new : RegionState) (name : List ℕ) (image : Image) (result : Result Loaded DefineFault) → DefinesProgram old name image result new
      → P (names_of old.terminals) → P (names_of new.terminals)
  unfolding DefinesProgram
  program_kept old new name image result h held = by (program_fault old name) h
    where
      loads : (answer : Result Loaded DefineFault) → LoadsProgram old name image answer new → P (names_of new.terminals)
      loads (Ok loaded) h = same_names old new (ap (λ (r : RegionState). names_of r.terminals) h.1) held
      loads (Err NoRoom) h = same_region old new h.1 held
      loads (Err _) h = absurd h

      by : (o : Option DefineFault) → MatchOption o (LoadsProgram old name image result new) (λ fault. (result ≡ Err fault) × (new ≡ old)) → P (names_of new.terminals)
      by None h = loads result h
      by (Some fault) h = same_region old new h.1 held

  transaction_kept : (old new : RegionState) (tran program : List ℕ) (result : Result (Unit {0}) DefineFault) → DefinesTransaction old tran program result new
      → P (names_of old.terminals) → P (names_of new.terminals)
  unfolding DefinesTransaction
  transaction_kept old new tran program result h held = by (transaction_fault old tran program) h
    where
      by : (o : Option DefineFault)
          → MatchOption o ((result ≡ Ok tt) × (new ≡ record old { transactions = insert_entry is_name old.transactions tran program })) (λ fault. (result ≡ Err fault) × (new ≡ old))
          → P (names_of new.terminals)
      by None h = same_names old new (ap (λ (r : RegionState). names_of r.terminals) h.1) held
      by (Some fault) h = same_region old new h.1 held

  terminal_kept : (old new : RegionState) (name : List ℕ) (result : Result (Unit {0}) DefineFault) → May name → DefinesTerminal old name result new
      → P (names_of old.terminals) → P (names_of new.terminals)
  unfolding DefinesTerminal terminal_fault
  terminal_kept old new name result may h held =
      by (entry_fault (is_some (terminal_of old name)) (length old.terminals) 16 None) (free (terminal_of old name)) h
    where
      free : (o : Option TerminalState) → entry_fault (is_some o) (length old.terminals) 16 None ≡ None → o ≡ None
      free None e = refl
      free (Some t) e = absurd (none-some Duplicate (sym e))

      by : (o : Option DefineFault) → (o ≡ None → terminal_of old name ≡ None)
          → MatchOption o ((result ≡ Ok tt) × (new ≡ record old { terminals = insert_entry is_name old.terminals name (fresh_terminal (length old.terminals + 1)) }))
          (λ fault. (result ≡ Err fault) × (new ≡ old))
          → P (names_of new.terminals)
      by None none h =
          subst (λ (r : RegionState). P (names_of r.terminals)) (sym h.1)
          (add old.terminals name (fresh_terminal (length old.terminals + 1)) may (none refl) held)
      by (Some fault) none h = same_region old new h.1 held

  region_kept : (old new : RegionState) (e : Event) (r : Reply) → MayDo May e → Applies old e r new → P (names_of old.terminals) → P (names_of new.terminals)
  unfolding Applies
  region_kept old new (event.Program name image) (reply.Program result) may h held = program_kept old new name image result h held
  region_kept old new (event.Program name image) _ may h held = absurd h
  region_kept old new (event.Transaction tran program) (reply.Transaction result) may h held = transaction_kept old new tran program result h held
  region_kept old new (event.Transaction tran program) _ may h held = absurd h
  region_kept old new (event.Terminal name) (reply.Terminal result) may h held = terminal_kept old new name result may h held
  region_kept old new (event.Terminal name) _ may h held = absurd h
  region_kept old new (event.Clock time date) reply.Clock may h held = same_names old new (ap (λ (r : RegionState). names_of r.terminals) h) held
  region_kept old new (event.Clock time date) _ may h held = absurd h
  region_kept old new (event.Key name aid bytes) (reply.Key given) may h held =
      same_names old new (keyed old name (input_from aid bytes) given new h).names held
  region_kept old new (event.Key name aid bytes) _ may h held = absurd h
  region_kept old new (event.Turn name) (reply.Turn given) may h held = same_names old new (turned old name given new h).names held
  region_kept old new (event.Turn name) _ may h held = absurd h
  region_kept old new (event.Alter name change) (reply.Alter given) may h held = same_names old new (altered old name change given new h).names held
  region_kept old new (event.Alter name change) _ may h held = absurd h

  -- under EDF
  abbrev MayPass : Door → Type 0
  MayPass (Keeps own sessions) = ⊤
  MayPass (Passes e own) = MayDo May e

  pass_either : (b : Bool) (one other : Door) → MayPass one → MayPass other → MayPass (if b then one else other)
  pass_either true one other h k = h
  pass_either false one other h k = k

  may_pass : (old : EdfState) (e : EdfEvent) → MayDoEdf May e → MayPass (door_of old e)
  unfolding door_of
  may_pass old (edf_event.On name) may = pass_either (not (is_some (terminal_of old.region name))) _ _ tt (pass_either (is_some (session_at old name)) _ _ tt tt)
  may_pass old (edf_event.Off name) may = pass_either (not (is_some (terminal_of old.region name))) _ _ tt (pass_either (is_some (session_at old name)) _ _ tt tt)
  may_pass old (edf_event.Plain (event.Key name aid bytes)) may = pass_either (ends_by_key old name aid) _ _ tt (pass_either (stopped_at old name) _ _ tt tt)
  may_pass old (edf_event.Plain (event.Turn name)) may = pass_either (holds old name) _ _ tt tt
  may_pass old (edf_event.Plain (event.Alter name change)) may = pass_either (is_some (terminal_of old.region name) && not (stopped_at old name)) _ _ tt tt
  may_pass old (edf_event.Plain (event.Program name image)) may = tt
  may_pass old (edf_event.Plain (event.Transaction tran program)) may = tt
  may_pass old (edf_event.Plain (event.Terminal name)) may = may
  may_pass old (edf_event.Plain (event.Clock time date)) may = tt

  door_kept : (make : DisplayMaker) (old new : EdfState) (door : Door) (given : Answer) → MayPass door → DoorAnswers make old door given new
      → P (names_of old.region.terminals) → P (names_of new.region.terminals)
  door_kept make old new (Keeps own sessions) given may h held = same_names old.region new.region (ap (λ (s : EdfState). names_of s.region.terminals) h.1) held
  door_kept make old new (Passes e own) given may h held = region_kept old.region new.region e h.reply may h.applies held

  edf_kept : (make : DisplayMaker) (old new : EdfState) (e : EdfEvent) (given : Answer) → MayDoEdf May e → EdfApplies make old e given new
      → P (names_of old.region.terminals) → P (names_of new.region.terminals)
  unfolding EdfApplies
  edf_kept make old new e given may h held = door_kept make old new (door_of old e) given (may_pass old e may) h held

  -- actions of `cicsedf`
  image_kept : (make : DisplayMaker) (fault : Option ImageFault) (old new : EdfState) (name : List ℕ) (image : Image) (text : List ℕ) → ByFault make fault old name image text new
      → P (names_of old.region.terminals) → P (names_of new.region.terminals)
  unfolding Replies
  image_kept make None old new name image text h held = edf_kept make old new (edf_event.Plain (event.Program name image)) h.0 tt h.1 held
  image_kept make (Some fault) old new name image text h held = same_state old new h.1 held

  action_kept : (make : DisplayMaker) (old new : EdfState) (a : Action) (text : List ℕ) → MayAct May a → Performs make old a text new
      → P (names_of old.region.terminals) → P (names_of new.region.terminals)
  unfolding Performs Replies
  action_kept make old new (edf_action.Image name image) text may h held = image_kept make (image_fault image) old new name image text h held
  action_kept make old new (edf_action.Source name before image) text may h held = image_kept make (image_fault image) old new name image h.0 h.1 held
  action_kept make old new (edf_action.Event e) text may h held = edf_kept make old new e h.0 may h.1 held
  action_kept make old new (edf_action.Screen name) text may h held = same_state old new h.1 held
  action_kept make old new (edf_action.Display name) text may h held = same_state old new h.1 held
  action_kept make old new (edf_action.Previous name k) text may h held = same_state old new h.1 held

  -- actions with looks
  noted_kept : (make : DisplayMaker) (old new : LookState) (a : Action) (text : List ℕ) → MayAct May a → NotedPerforms make old a text new
      → P (names_of old.edf.region.terminals) → P (names_of new.edf.region.terminals)
  noted_kept make old new a text may h held = action_kept make old.edf new.edf a text may (performs make old a text new h) held

  turn_kept : (make : DisplayMaker) (old new : LookState) (name text : List ℕ) (line : Option (List ℕ))
      → MatchOption line (NotedPerforms make old (turn_action name) text new) (λ l. (text ≡ l) × (new ≡ run_over old))
      → P (names_of old.edf.region.terminals) → P (names_of new.edf.region.terminals)
  turn_kept make old new name text None h held = noted_kept make old new (turn_action name) text tt h held
  turn_kept make old new name text (Some l) h held = same_look (run_over old) new h.1 held

  more_kept : (make : DisplayMaker) (old new : LookState) (name : List ℕ) (n : ℕ) (s : Stop) (text : List ℕ) (on : Bool)
      → MatchBool on (TakesOneMore make old name n s text new) ((text ≡ []) × (new ≡ old))
      → P (names_of old.edf.region.terminals) → P (names_of new.edf.region.terminals)
  more_kept make old new name zero s text true h held = same_look (run_over old) new h.1 held
  more_kept make old new name (suc n) s text true h held = turn_kept make old new name text h.line h.does held
  more_kept make old new name n s text false h held = same_look old new h.1 held

  acts_kept : (make : DisplayMaker) (old new : LookState) (a : LookAction) (own : List ℕ) → MayAsk May a → Acts make old a own new
      → P (names_of old.edf.region.terminals) → P (names_of new.edf.region.terminals)
  unfolding Acts
  acts_kept make old new (action.Script a) own may h held = noted_kept make old new a own may h held
  acts_kept make old new (action.Source name lines a) own may h held =
      same_names h.done.edf.region new.edf.region (ap (λ (s : LookState). names_of s.edf.region.terminals) h.keeps) (noted_kept make old h.done a own may h.performs held)
  acts_kept make old new (action.Run name n s) own may h held = turn_kept make old new name own h.line h.does held
  acts_kept make old new (action.RunOn name n s) own may h held = more_kept make old new name n s own old.goes_on h held
  acts_kept make old new (action.Watch w) own may h held = same_names old.edf.region new.edf.region (ap (λ (s : LookState). names_of s.edf.region.terminals) h.1) held
  acts_kept make old new (action.Cover on) own may h held = same_names old.edf.region new.edf.region (ap (λ (s : LookState). names_of s.edf.region.terminals) h.1) held
  acts_kept make old new (action.Look l) own may h held = same_look old new h.1 held
  acts_kept make old new (action.Orders block) own may h held = same_look old new h.1 held
  acts_kept make old new (action.Choices block) own may h held = same_look old new h.1 held
  acts_kept make old new (action.BadLook number s) own may h held = same_look old new h.1 held

  pub one_kept : (make : DisplayMaker) (old new : LookState) (a : LookAction) (text : List ℕ) → MayAsk May a → LookPerforms make old a text new
      → P (names_of old.edf.region.terminals) → P (names_of new.edf.region.terminals)
  one_kept make old new a text may h held = acts_kept make old new a h.own may h.acts held

  pub all_kept : (make : DisplayMaker) (old new : LookState) (actions : List LookAction) (text : List ℕ) → AllByRecursion (λ a. MayAsk May a) actions → PerformsAll (LookPerforms make) old actions text new
      → P (names_of old.edf.region.terminals) → P (names_of new.edf.region.terminals)
  unfolding PerformsAll
  all_kept make old new [] text may h held = same_look old new h.1 held
  all_kept make old new (a ∷ actions) text may h held = all_kept make h.0 new actions h.2 may.1 h.4 (one_kept make old h.0 a h.1 may.0 h.3 held)

-- ---- no two names are the same
abbrev pub AnyName : List ℕ → Type 0
AnyName name = ⊤

pub distinct_added : (ts : Terminals) (name : List ℕ) (t : TerminalState) → AnyName name → lookup (is_name name) ts ≡ None → IsDistinct is_name (names_of ts)
    → IsDistinct is_name (names_of (insert_entry is_name ts name t))
distinct_added ts name t may none held = distinct-insert_entry is_name is_name-laws ts name t held

any_event : (e : Event) → MayDo AnyName e
any_event (event.Terminal name) = tt
any_event (event.Program name image) = tt
any_event (event.Transaction name program) = tt
any_event (event.Clock time date) = tt
any_event (event.Key name aid bytes) = tt
any_event (event.Turn name) = tt
any_event (event.Alter name change) = tt

any_action : (a : Action) → MayAct AnyName a
any_action (edf_action.Event (edf_event.Plain e)) = any_event e
any_action (edf_action.Event (edf_event.On name)) = tt
any_action (edf_action.Event (edf_event.Off name)) = tt
any_action (edf_action.Image name image) = tt
any_action (edf_action.Source name before image) = tt
any_action (edf_action.Screen name) = tt
any_action (edf_action.Display name) = tt
any_action (edf_action.Previous name k) = tt

pub any_asked : (a : LookAction) → MayAsk AnyName a
any_asked (action.Script a) = any_action a
any_asked (action.Source name lines a) = any_action a
any_asked (action.Run name n s) = tt
any_asked (action.RunOn name n s) = tt
any_asked (action.Watch w) = tt
any_asked (action.Cover on) = tt
any_asked (action.Look l) = tt
any_asked (action.Orders block) = tt
any_asked (action.Choices block) = tt
any_asked (action.BadLook number s) = tt

-- ---- each has a spelling
spelled_last : (ts : Terminals) (name : List ℕ) (t : TerminalState) → HasSpelling name → AllByRecursion HasSpelling (names_of ts)
    → AllByRecursion HasSpelling (names_of (ts ++ (name, t) ∷ []))
spelled_last [] name t may held = (may, tt)
spelled_last (e ∷ ts) name t may held = (held.0, spelled_last ts name t may held.1)

pub spelled_added : (ts : Terminals) (name : List ℕ) (t : TerminalState) → HasSpelling name → lookup (is_name name) ts ≡ None → AllByRecursion HasSpelling (names_of ts)
    → AllByRecursion HasSpelling (names_of (insert_entry is_name ts name t))
spelled_added ts name t may none held =
    subst (λ (es : Terminals). AllByRecursion HasSpelling (names_of es)) (sym (insert_entry_absent is_name ts name t none)) (spelled_last ts name t may held)
