-- What turns, keys and refused definitions leave of a region.
use Rattle.std.proofs.Common.{◌≡◌, ℕ, ◌+◌, Bool, true, false, cond, Option, Some, None, List, [], ◌∷◌, length, refl, sym, ◌∙◌, ap, subst, inl, inr}
use Rattle.std.specs.Prelude.{◌↔◌, MatchOption, Result, Ok, Err}
use Rattle.std.specs.Map.{lookup, set_value}
use Rattle.std.proofs.Common.{rules}
use Rattle.std.proofs.lemmas.Bool.{cases_Bool, cond-true, cond-false, true≢false}
use Rattle.std.proofs.lemmas.Option.{same_Some}
use Rattle.std.proofs.lemmas.Map.{keys-set_value}
use Rattle.indexmap.specs.IndexMap.{insert_entry}
use Rattle.cx_code.specs.declared.image.Image.{Image}
use Rattle.cx_load.specs.declared.program.Loaded.{Loaded}
use Rattle.cx_region.specs.declared.replies.DefineFault.{DefineFault}
use Rattle.cx_region.specs.declared.replies.DefineFault.TheVariants.{NoRoom}
use Rattle.cx_region.specs.declared.replies.KeyReply.{KeyReply}
use Rattle.cx_region.specs.declared.replies.KeyReply.TheVariants as key
use Rattle.cx_region_state.specs.declared.replies.TurnReply.{TurnReply}
use Rattle.cx_region_state.specs.declared.replies.TurnReply.TheVariants as turn
use Rattle.cx_region_state.specs.State.{Input, TaskContext, TaskState}
use Rattle.cx_service.specs.Resources.{without_owner}
use Rattle.cx_base.specs.Facts.Tables.{found_meets}
use Rattle.cx_region_task.specs.Turn.{HalfTurn}
use Rattle.cx_region_task.specs.Laws.HalfTurns.{HalfTurnKeeps, HalfTurnStays, HalfTurnsKeep, HalfTurnsStay, WaitsLeave, is_of_task, others_areas}
use Rattle.cx_region.specs.Sound.{IsSoundTerminal}
use Rattle.cx_region.specs.Facts.SoundAttach.{of_some}
use Rattle.cx_region.specs.Facts.SoundTurned.{task_of_terminal}
use Rattle.cx_region.specs.State.{RegionState, TerminalState}
use Rattle.cx_ebcdic.specs.Names.{is_name}
use Rattle.cx_region.specs.Tables.{fresh_terminal, program_of, terminal_of, transaction_of, with_terminal}
use Rattle.cx_region.specs.Defining.{DefinesProgram, DefinesTerminal, DefinesTransaction, LoadsProgram, program_fault, terminal_fault, transaction_fault}
use Rattle.cx_region.specs.Attach.{Attaches, Gives, TakesKey, OnlyAnswers, StartsTask, with_task_attached, transaction_named}
use Rattle.cx_region.specs.declared.asking.Places.{Places}
use Rattle.cx_region.specs.Turn.{TaskTakesTurn, TakesTurn, put_back, context_of, task_after}
use Rattle.cx_region_laws.specs.Laws.Regions.{KeyKeeps, KeysKeepToTheirTerminal, RefusedProgramsLeaveTheRegion, RefusedTerminalsLeaveTheRegion, RefusedTransactionsLeaveTheRegion, StillKeysLeaveTheRegion, StillTurnsLeaveTheRegion, TurnKeeps, TurnKeepsOthers, TurnsKeepOthers, TurnsKeepToTheirTask, changes_nothing, counter_after}

-- ---- names
same_name : (one other : List ℕ) → (is_name one other ≡ true) ↔ (one ≡ other)
same_name one other = search rules

-- an entry that has both names makes them the same
not_both : (name other found : List ℕ) → is_name name other ≡ false → is_name name found ≡ true → is_name other found ≡ false
not_both name other found differ is = elim (cases_Bool (is_name other found)) [
  | inl also ↦
      let one : name ≡ found = (same_name name found).0 is in
      let two : other ≡ found = (same_name other found).0 also in
      let same : name ≡ other = one ∙ sym two in
      absurd (true≢false (sym ((same_name name other).1 same) ∙ differ))
  | inr apart ↦ apart
]

-- another name's entry stays where a value is set
pub other_stays : {V : Type 0} (name other : List ℕ) (entries : List (List ℕ × V)) (value : V) → is_name name other ≡ false
    → lookup (is_name other) (set_value (is_name name) entries value) ≡ lookup (is_name other) entries
other_stays name other [] value differ = refl
other_stays name other (e ∷ es) value differ = elim (cases_Bool (is_name name e.0)) [
  | inl is ↦
      let apart = not_both name other e.0 differ is in
      rw (is, apart) refl
  | inr apart ↦ rw apart (ap (λ rest. cond (is_name other e.0) (Some e.1) rest) (other_stays name other es value differ))
]

-- ---- turns
turn_nothing : (old : RegionState) (name : List ℕ) (new : RegionState) → new ≡ old → TurnKeeps old name new
turn_nothing old name new same = subst (λ (r : RegionState). TurnKeeps old name r) (sym same) (record {
  others = λ other differ. refl;
  names = refl;
  programs = refl;
  transactions = refl;
  time = refl;
  date = refl;
  counter = refl;
})

after_keeps : (old : RegionState) (name : List ℕ) (terminal : TerminalState) (task : TaskState) (reply : TurnReply) (after : TaskContext)
    → HalfTurnStays (context_of old terminal task) reply after → TurnKeeps old name (put_back old name after (task_after reply after.task))
after_keeps old name terminal task reply after stays = record {
  others = λ other differ. other_stays name other old.terminals _ differ;
  names = keys-set_value (is_name name) old.terminals _;
  programs = stays.programs;
  transactions = refl;
  time = refl;
  date = refl;
  counter = refl;
}

pub turned_keeps : HalfTurnsStay → TurnsKeepToTheirTask
unfolding TakesTurn
turned_keeps law old name reply new h = at_terminal (terminal_of old name) h
  where
    turned : (terminal : TerminalState) (task : TaskState) → TaskTakesTurn old name terminal task reply new → TurnKeeps old name new
    turned terminal task h =
        subst (λ (r : RegionState). TurnKeeps old name r) (sym h.after) (after_keeps old name terminal task reply h.reached (law (context_of old terminal task) h.reached reply h.half_turn))

    at_task : (terminal : TerminalState) (o : Option TaskState) → MatchOption o ((reply ≡ turn.Idle) × (new ≡ old)) (λ task. TaskTakesTurn old name terminal task reply new) → TurnKeeps old name new
    at_task terminal None idle = turn_nothing old name new idle.1
    at_task terminal (Some task) h = turned terminal task h

    at_terminal : (o : Option TerminalState) → MatchOption o ((reply ≡ turn.NoSuchTerminal) × (new ≡ old)) (λ terminal. MatchOption terminal.task ((reply ≡ turn.Idle) × (new ≡ old)) (λ task. TaskTakesTurn old name terminal task reply new)) → TurnKeeps old name new
    at_terminal None none = turn_nothing old name new none.1
    at_terminal (Some terminal) found = at_task terminal terminal.task found

-- ---- what others own
others_nothing : (old : RegionState) (name : List ℕ) (new : RegionState) → new ≡ old → TurnKeepsOthers old name new
others_nothing old name new same = subst (λ (r : RegionState). TurnKeepsOthers old name r) (sym same) whole
  where
    areas_same : (o : Option TerminalState) → MatchOption o (old.shared.storage ≡ old.shared.storage) (λ terminal. others_areas terminal.entry.slot old.shared.storage ≡ others_areas terminal.entry.slot old.shared.storage)
    areas_same None = refl
    areas_same (Some terminal) = refl

    resources_same : (o : Option TerminalState) → MatchOption o (old.shared.resources ≡ old.shared.resources) (λ terminal. without_owner old.shared.resources terminal.entry.slot ≡ without_owner old.shared.resources terminal.entry.slot)
    resources_same None = refl
    resources_same (Some terminal) = refl

    whole : TurnKeepsOthers old name old
    whole = record { areas = areas_same (terminal_of old name); resources = resources_same (terminal_of old name) }

others_kept : (old : RegionState) (name : List ℕ) (terminal : TerminalState) (task : TaskState) (reply : TurnReply) (after : TaskContext) → terminal_of old name ≡ Some terminal
    → HalfTurnKeeps (context_of old terminal task) reply after → TurnKeepsOthers old name (put_back old name after (task_after reply after.task))
others_kept old name terminal task reply after there keeps = record {
  areas = of_some _ (λ t. others_areas t.entry.slot after.shared.storage ≡ others_areas t.entry.slot old.shared.storage) (terminal_of old name) terminal there keeps.areas;
  resources = of_some _ (λ t. without_owner after.shared.resources t.entry.slot ≡ without_owner old.shared.resources t.entry.slot) (terminal_of old name) terminal there keeps.resources;
}

pub turned_keeps_others : HalfTurnsKeep → TurnsKeepOthers
unfolding TakesTurn
turned_keeps_others law old name reply new ok h = at_terminal (terminal_of old name) refl h
  where
    turned : (terminal : TerminalState) (task : TaskState) → terminal_of old name ≡ Some terminal → terminal.task ≡ Some task → TaskTakesTurn old name terminal task reply new → TurnKeepsOthers old name new
    turned terminal task there at h =
        let own = task_of_terminal old.shared.storage terminal task at (found_meets (IsSoundTerminal old.shared.storage) (is_name name) old.terminals terminal ok.tasks there) in
        let keeps = law (context_of old terminal task) h.reached reply ok.storage ok.programs_sound ok.queues_sound own h.half_turn in
        subst (λ (r : RegionState). TurnKeepsOthers old name r) (sym h.after) (others_kept old name terminal task reply h.reached there keeps)

    at_task : (terminal : TerminalState) → terminal_of old name ≡ Some terminal → (o : Option TaskState) → terminal.task ≡ o
        → MatchOption o ((reply ≡ turn.Idle) × (new ≡ old)) (λ task. TaskTakesTurn old name terminal task reply new) → TurnKeepsOthers old name new
    at_task terminal there None at idle = others_nothing old name new idle.1
    at_task terminal there (Some task) at h = turned terminal task there at h

    at_terminal : (o : Option TerminalState) → terminal_of old name ≡ o
        → MatchOption o ((reply ≡ turn.NoSuchTerminal) × (new ≡ old)) (λ terminal. MatchOption terminal.task ((reply ≡ turn.Idle) × (new ≡ old)) (λ task. TaskTakesTurn old name terminal task reply new)) → TurnKeepsOthers old name new
    at_terminal None there none = others_nothing old name new none.1
    at_terminal (Some terminal) there found = at_task terminal there terminal.task refl found

-- ---- a turn that changes nothing
set_same : {V : Type 0} (test : List ℕ → Bool) (entries : List (List ℕ × V)) (value : V) → lookup test entries ≡ Some value → set_value test entries value ≡ entries
set_same test [] value found = refl
set_same test (e ∷ es) value found = elim (cases_Bool (test e.0)) [
  | inl is ↦
      let same : e.1 ≡ value = same_Some _ _ (sym (cond-true _ _ _ is) ∙ found) in
      rw is (λ i. (e.0, sym same i) ∷ es)
  | inr apart ↦ rw apart (ap (λ rest. e ∷ rest) (set_same test es value (sym (cond-false _ _ _ apart) ∙ found)))
]

-- what was reached, put back unchanged
put_back_same : (old : RegionState) (name : List ℕ) (terminal : TerminalState) (task : TaskState) → terminal_of old name ≡ Some terminal → terminal.task ≡ Some task
    → put_back old name (context_of old terminal task) (task_after turn.Waiting (context_of old terminal task).task) ≡ old
put_back_same old name terminal task found has =
    let whole : record terminal { task = Some task } ≡ terminal = λ i. record terminal { task = sym has i } in
    let entries : set_value (is_name name) old.terminals (record terminal { task = Some task }) ≡ old.terminals =
    ap (λ (t : TerminalState). set_value (is_name name) old.terminals t) whole ∙ set_same (is_name name) old.terminals terminal found in
    λ i. record old { terminals = entries i }

pub still_turns_leave : HalfTurnsStay → WaitsLeave → StillTurnsLeaveTheRegion
unfolding TakesTurn
still_turns_leave stay law old name reply new h still = at_terminal (terminal_of old name) refl h
  where
    waited : (terminal : TerminalState) (task : TaskState) → terminal_of old name ≡ Some terminal → terminal.task ≡ Some task → TaskTakesTurn old name terminal task reply new → reply ≡ turn.Waiting → new ≡ old
    waited terminal task found has h is =
        let same : h.reached ≡ context_of old terminal task = law (context_of old terminal task) h.reached (subst (λ (r : TurnReply). HalfTurn (context_of old terminal task) r h.reached) is h.half_turn) in
        h.after ∙ ap (λ (answer : TurnReply). put_back old name h.reached (task_after answer h.reached.task)) is
        ∙ ap (λ (x : TaskContext). put_back old name x (task_after turn.Waiting x.task)) same ∙ put_back_same old name terminal task found has

    by_reply : (terminal : TerminalState) (task : TaskState) → terminal_of old name ≡ Some terminal → terminal.task ≡ Some task → TaskTakesTurn old name terminal task reply new
        → (reported : TurnReply) → reply ≡ reported → changes_nothing reported ≡ true → is_of_task reported ≡ true → new ≡ old
    by_reply terminal task found has h turn.Idle is nothing of = absurd (true≢false (sym of))
    by_reply terminal task found has h turn.NoSuchTerminal is nothing of = absurd (true≢false (sym of))
    by_reply terminal task found has h turn.AtCommand is nothing of = absurd (true≢false (sym nothing))
    by_reply terminal task found has h (turn.Performed condition) is nothing of = absurd (true≢false (sym nothing))
    by_reply terminal task found has h turn.Entered is nothing of = absurd (true≢false (sym nothing))
    by_reply terminal task found has h turn.Returned is nothing of = absurd (true≢false (sym nothing))
    by_reply terminal task found has h turn.Waiting is nothing of = waited terminal task found has h is
    by_reply terminal task found has h (turn.TookLabel condition) is nothing of = absurd (true≢false (sym nothing))
    by_reply terminal task found has h (turn.TookExit code) is nothing of = absurd (true≢false (sym nothing))
    by_reply terminal task found has h (turn.Abended code) is nothing of = absurd (true≢false (sym nothing))
    by_reply terminal task found has h turn.Ended is nothing of = absurd (true≢false (sym nothing))

    at_task : (terminal : TerminalState) → terminal_of old name ≡ Some terminal → (o : Option TaskState) → terminal.task ≡ o
        → MatchOption o ((reply ≡ turn.Idle) × (new ≡ old)) (λ task. TaskTakesTurn old name terminal task reply new) → new ≡ old
    at_task terminal found None has idle = idle.1
    at_task terminal found (Some task) has h =
        by_reply terminal task found has h reply refl still (stay (context_of old terminal task) h.reached reply h.half_turn).answers

    at_terminal : (o : Option TerminalState) → terminal_of old name ≡ o
        → MatchOption o ((reply ≡ turn.NoSuchTerminal) × (new ≡ old)) (λ terminal. MatchOption terminal.task ((reply ≡ turn.Idle) × (new ≡ old)) (λ task. TaskTakesTurn old name terminal task reply new)) → new ≡ old
    at_terminal None found none = none.1
    at_terminal (Some terminal) found h = at_task terminal found terminal.task refl h

-- ---- keys
-- the answers of a key that holds no input and attaches no task
is_refusal : KeyReply → Bool
is_refusal key.Attached = false
is_refusal key.Given = false
is_refusal _ = true

counter_refused : (answer : KeyReply) (counter : ℕ) → is_refusal answer ≡ true → counter ≡ counter_after answer counter
unfolding is_refusal
counter_refused key.Attached counter refused = absurd (true≢false (sym refused))
counter_refused _ counter refused = refl

key_nothing : (old : RegionState) (name : List ℕ) (answer : KeyReply) (new : RegionState) → is_refusal answer ≡ true → new ≡ old → KeyKeeps old name answer new
key_nothing old name answer new refused same = subst (λ (r : RegionState). KeyKeeps old name answer r) (sym same) whole
  where
    whole : KeyKeeps old name answer old
    whole = record {
      others = λ other differ. refl;
      names = refl;
      programs = refl;
      transactions = refl;
      time = refl;
      date = refl;
      queues = refl;
      resources = refl;
      storage = λ apart. refl;
      counter = counter_refused answer old.counter refused;
    }

only_answers_keeps : (old : RegionState) (name : List ℕ) (due reply : KeyReply) (new : RegionState) → is_refusal due ≡ true → OnlyAnswers due old reply new → KeyKeeps old name reply new
only_answers_keeps old name due reply new refused h = subst (λ (r : KeyReply). KeyKeeps old name r new) (sym h.0) (key_nothing old name due new refused h.1)

given_keeps : (old : RegionState) (name : List ℕ) (terminal : TerminalState) → KeyKeeps old name key.Given (with_terminal old name terminal)
given_keeps old name terminal = record {
  others = λ other differ. other_stays name other old.terminals terminal differ;
  names = keys-set_value (is_name name) old.terminals terminal;
  programs = refl;
  transactions = refl;
  time = refl;
  date = refl;
  queues = refl;
  resources = refl;
  storage = λ apart. refl;
  counter = refl;
}

attached_keeps : (old : RegionState) (name : List ℕ) (terminal : TerminalState) (input : Input) (tran program : List ℕ) (loaded : Loaded) (areas : Places)
    → KeyKeeps old name key.Attached (with_task_attached old name terminal input tran program loaded areas)
attached_keeps old name terminal input tran program loaded areas = record {
  others = λ other differ. other_stays name other old.terminals _ differ;
  names = keys-set_value (is_name name) old.terminals _;
  programs = refl;
  transactions = refl;
  time = refl;
  date = refl;
  queues = refl;
  resources = refl;
  storage = λ apart. absurd (apart refl);
  counter = refl;
}

attaches_keeps : (old : RegionState) (name : List ℕ) (terminal : TerminalState) (input : Input) (tran program : List ℕ) (loaded : Loaded) (reply : KeyReply) (new : RegionState)
    → Attaches old name terminal input tran program loaded reply new → KeyKeeps old name reply new
unfolding is_refusal
attaches_keeps old name terminal input tran program loaded key.Attached new h =
    subst (λ (r : RegionState). KeyKeeps old name key.Attached r) (sym h.after) (attached_keeps old name terminal input tran program loaded h.areas)
attaches_keeps old name terminal input tran program loaded key.NoStorage new h = key_nothing old name key.NoStorage new refl h.1
attaches_keeps old name terminal input tran program loaded _ new h = absurd h

-- what holds of each way of a key holds of the key
record EachWay (P : KeyReply → RegionState → Type 0) (old : RegionState) (name : List ℕ) (input : Input) : Type 0 where
  nowhere : (due reply : KeyReply) (new : RegionState) → is_refusal due ≡ true → OnlyAnswers due old reply new → P reply new
  gives : (terminal : TerminalState) (reply : KeyReply) (new : RegionState) → reply ≡ key.Given → new ≡ with_terminal old name terminal → P reply new
  attaches : (terminal : TerminalState) (tran program : List ℕ) (loaded : Loaded) (reply : KeyReply) (new : RegionState) → Attaches old name terminal input tran program loaded reply new → P reply new

by_way : (P : KeyReply → RegionState → Type 0) (old : RegionState) (name : List ℕ) (input : Input) (reply : KeyReply) (new : RegionState) → EachWay P old name input → TakesKey old name input reply new → P reply new
unfolding TakesKey is_refusal
by_way P old name input reply new each h = at_terminal (terminal_of old name) h
  where
    at_program : (terminal : TerminalState) (tran program : List ℕ) (o : Option Loaded)
        → MatchOption o (OnlyAnswers key.NoSuchTransaction old reply new) (λ loaded. Attaches old name terminal input tran program loaded reply new) → P reply new
    at_program terminal tran program None h = each.nowhere key.NoSuchTransaction reply new refl h
    at_program terminal tran program (Some loaded) h = each.attaches terminal tran program loaded reply new h

    at_tran : (terminal : TerminalState) (tran : List ℕ) (o : Option (List ℕ))
        → MatchOption o (OnlyAnswers key.NoSuchTransaction old reply new) (λ program.
        MatchOption (program_of old program) (OnlyAnswers key.NoSuchTransaction old reply new) (λ loaded. Attaches old name terminal input tran program loaded reply new)) → P reply new
    at_tran terminal tran None h = each.nowhere key.NoSuchTransaction reply new refl h
    at_tran terminal tran (Some program) h = at_program terminal tran program (program_of old program) h

    at_input : (terminal : TerminalState) (o : Option Input)
        → MatchOption o ((reply ≡ key.Given) × (new ≡ with_terminal old name (record terminal { entry = record terminal.entry { input = Some input } }))) (λ held. OnlyAnswers key.AlreadyHeldInput old reply new) → P reply new
    at_input terminal None h = each.gives (record terminal { entry = record terminal.entry { input = Some input } }) reply new h.0 h.1
    at_input terminal (Some held) h = each.nowhere key.AlreadyHeldInput reply new refl h

    at_task : (terminal : TerminalState) (o : Option TaskState)
        → MatchOption o (StartsTask old name terminal input (transaction_named terminal.entry.following input.bytes) reply new) (λ task. Gives old name terminal input reply new) → P reply new
    at_task terminal None h = at_tran terminal (transaction_named terminal.entry.following input.bytes) (transaction_of old (transaction_named terminal.entry.following input.bytes)) h
    at_task terminal (Some task) h = at_input terminal terminal.entry.input h

    at_terminal : (o : Option TerminalState) → MatchOption o (OnlyAnswers key.NoSuchTerminal old reply new) (λ terminal. MatchOption terminal.task (StartsTask old name terminal input (transaction_named terminal.entry.following input.bytes) reply new) (λ task. Gives old name terminal input reply new)) → P reply new
    at_terminal None h = each.nowhere key.NoSuchTerminal reply new refl h
    at_terminal (Some terminal) h = at_task terminal terminal.task h

pub keyed_keeps : KeysKeepToTheirTerminal
keyed_keeps old name input reply new h =
    by_way (KeyKeeps old name) old name input reply new (record {
      nowhere = only_answers_keeps old name;
      gives = λ terminal reply new is after. subst (λ (r : KeyReply). KeyKeeps old name r new) (sym is) (subst (λ (r : RegionState). KeyKeeps old name key.Given r) (sym after) (given_keeps old name terminal));
      attaches = λ terminal tran program loaded reply new attaches. attaches_keeps old name terminal input tran program loaded reply new attaches;
    }) h

-- what is left as it was, except by two answers
abbrev IsStill : RegionState → KeyReply → RegionState → Type 0
IsStill old reply new = (reply ≡ key.Attached → ⊥) → (reply ≡ key.Given → ⊥) → new ≡ old

attaches_still : (old : RegionState) (name : List ℕ) (terminal : TerminalState) (input : Input) (tran program : List ℕ) (loaded : Loaded) (reply : KeyReply) (new : RegionState)
    → Attaches old name terminal input tran program loaded reply new → IsStill old reply new
attaches_still old name terminal input tran program loaded key.Attached new h apart other = absurd (apart refl)
attaches_still old name terminal input tran program loaded key.NoStorage new h apart other = h.1
attaches_still old name terminal input tran program loaded _ new h apart other = absurd h

pub still_keys_leave : StillKeysLeaveTheRegion
still_keys_leave old name input reply new h apart other =
    by_way (IsStill old) old name input reply new (record {
      nowhere = λ due reply new refused h apart other. h.1;
      gives = λ terminal reply new is after apart other. absurd (other is);
      attaches = λ terminal tran program loaded reply new attaches. attaches_still old name terminal input tran program loaded reply new attaches;
    }) h apart other

-- ---- definitions
refused_load_leaves : (old : RegionState) (name : List ℕ) (image : Image) (fault : DefineFault) (new : RegionState) → LoadsProgram old name image (Err fault) new → new ≡ old
refused_load_leaves old name image NoRoom new h = h.1
refused_load_leaves old name image _ new h = absurd h

pub refused_programs_leave : RefusedProgramsLeaveTheRegion
unfolding DefinesProgram
refused_programs_leave old name image fault new h = by_fault (program_fault old name) h
  where
    by_fault : (o : Option DefineFault) → MatchOption o (LoadsProgram old name image (Err fault) new) (λ first. (◌≡◌ {A = Result Loaded DefineFault} (Err fault) (Err first)) × (new ≡ old)) → new ≡ old
    by_fault None loads = refused_load_leaves old name image fault new loads
    by_fault (Some first) refused = refused.1

not_done : (o : Option DefineFault) (fault : DefineFault) (old after new : RegionState)
    → MatchOption o ((◌≡◌ {A = Result (Unit {0}) DefineFault} (Err fault) (Ok tt)) × (new ≡ after)) (λ first. (◌≡◌ {A = Result (Unit {0}) DefineFault} (Err fault) (Err first)) × (new ≡ old)) → new ≡ old
not_done None fault old after new h = let both : ◌≡◌ {A = Result (Unit {0}) DefineFault} (Err fault) (Ok tt) = h.0 in cc
not_done (Some first) fault old after new h = h.1

pub refused_transactions_leave : RefusedTransactionsLeaveTheRegion
unfolding DefinesTransaction
refused_transactions_leave old tran program fault new h = not_done (transaction_fault old tran program) fault old (record old { transactions = insert_entry is_name old.transactions tran program }) new h

pub refused_terminals_leave : RefusedTerminalsLeaveTheRegion
unfolding DefinesTerminal
refused_terminals_leave old name fault new h = not_done (terminal_fault old name) fault old (record old { terminals = insert_entry is_name old.terminals name (fresh_terminal (length old.terminals + 1)) }) new h
