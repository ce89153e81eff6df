-- A turn by the parts that change, and what it keeps.
use Rattle.std.proofs.Common.{◌≡◌, ℕ, Option, Some, None, List, refl, sym, ◌∙◌, ap, subst}
use Rattle.std.specs.Prelude.{if◌then◌else◌, IfOk, OnErr, MatchOption, Result, Ok, Err}
use Rattle.std.specs.Map.{lookup, set_value}
use Rattle.std.proofs.lemmas.Map.Steps.{set_value_same}
use Rattle.cx_storage.specs.Storage.{IsSoundStorage}
use Rattle.cx_service.specs.Queues.{AreSoundQueues}
use Rattle.cx_service.specs.Resources.{AreSoundResources}
use Rattle.cx_region_state.specs.declared.replies.TurnReply.{TurnReply}
use Rattle.cx_region_state.specs.declared.replies.TurnReply.TheVariants as turn
use Rattle.cx_region_state.specs.Replies.{is_over}
use Rattle.cx_region_state.specs.State.{SharedState, TerminalEntryState, TaskState, context}
use Rattle.cx_region_task.specs.Laws.HalfTurns.{HalfTurnsKeep}
use Rattle.cx_region_task.specs.Turn.{HalfTurnWith}
use Rattle.cx_region_task.specs.declared.cause.AbendRecord.{AbendRecord}
use Rattle.cx_region.specs.State.{RegionState, TerminalState}
use Rattle.cx_ebcdic.specs.Names.{is_name}
use Rattle.cx_region.specs.Turn.{TaskTakesTurn, TakesTurn, TurnHasAbendRecord}
use Rattle.cx_region.specs.declared.replies.Event.TheVariants as event
use Rattle.cx_region.specs.Events.{MayTakeMemory}
use Rattle.cx_region.specs.Parts.Turning.{TakesMemoryAt, PartTurned, HasAbendRecordAt, TurnedAt}
use Rattle.cx_region.specs.Sound.{IsSound}
use Rattle.cx_region.specs.Facts.SoundTurned.{sound_turned}

-- ---- a turn by the parts that change
abbrev pub Terminals : Type 0
Terminals = List (List ℕ × TerminalState)

abbrev pub with_parts : RegionState → SharedState → Terminals → RegionState
with_parts r shared terminals = record r { shared = shared; terminals = terminals }

-- the terminals after a change of the one of a name
abbrev pub Puts : RegionState → List ℕ → TerminalState → TerminalState → Terminals → Type 0
Puts r name t left later = (lookup (is_name name) r.terminals ≡ Some t) × (later ≡ set_value (is_name name) r.terminals left)

pub put_same : (r : RegionState) (name : List ℕ) (t left : TerminalState) (shared : SharedState) (later : Terminals) → Puts r name t left later
    → shared ≡ r.shared → left ≡ t → with_parts r shared later ≡ r
put_same r name t left shared later puts e f =
    let terminals : later ≡ r.terminals = puts.1 ∙ ap (set_value (is_name name) r.terminals) f ∙ set_value_same (is_name name) r.terminals t puts.0 in
    rw (e, terminals) refl

turned_whole : (r : RegionState) (name : List ℕ) (t left : TerminalState) (reply : TurnReply) (shared : SharedState) (later : Terminals) → Puts r name t left later
    → TurnedAt r.shared t reply shared left → TakesTurn r name reply (with_parts r shared later)
unfolding TakesTurn TurnedAt
turned_whole r name t left reply shared later puts turned = rw puts.0 (by_task t.task turned)
  where
    new : RegionState
    new = with_parts r shared later

    by_task : (o : Option TaskState) → MatchOption o ((reply ≡ turn.Idle) × (shared ≡ r.shared) × (left ≡ t)) (λ task. PartTurned r.shared t task reply shared left)
        → MatchOption o ((reply ≡ turn.Idle) × (new ≡ r)) (λ task. TaskTakesTurn r name t task reply new)
    by_task None idle = (idle.0, put_same r name t left shared later puts idle.1 idle.2)
    by_task (Some task) done =
        record { reached = done.reached; half_turn = done.half_turn; after = rw (done.shared_is, puts.1, done.terminal_is) refl }

-- ---- the terminal itself
abbrev pub terminal_with : TerminalEntryState → Option TaskState → TerminalState
terminal_with entry task = record { entry = entry; task = task }

pub turned_on : (shared after : SharedState) (t : TerminalState) (entry left : TerminalEntryState) (task final : TaskState) (kept : Option TaskState) (reply : TurnReply) (abend_record : Option AbendRecord)
    → terminal_with entry (Some task) ≡ t → HalfTurnWith (context shared entry task) reply abend_record (context after left final) → kept ≡ (if is_over reply then None else Some final)
    → TurnedAt shared t reply after (terminal_with left kept)
unfolding TurnedAt
turned_on shared after t entry left task final kept reply abend_record e turned is =
    subst (λ (k : TerminalState). TurnedAt shared k reply after (terminal_with left kept)) e
    (record { reached = context after left final; half_turn = record { abend_record = abend_record; turns = turned }; shared_is = refl; terminal_is = ap (terminal_with left) is })

pub recorded_on : (shared after : SharedState) (t : TerminalState) (entry left : TerminalEntryState) (task final : TaskState) (reply : TurnReply) (abend_record : Option AbendRecord)
    → terminal_with entry (Some task) ≡ t → HalfTurnWith (context shared entry task) reply abend_record (context after left final) → HasAbendRecordAt shared t abend_record
unfolding HasAbendRecordAt
recorded_on shared after t entry left task final reply abend_record e turned =
    subst (λ (k : TerminalState). HasAbendRecordAt shared k abend_record) e (record { reply = reply; after = context after left final; turns = turned })

-- ---- the whole region
abbrev Answered : Type 0 → Type 0
Answered E = Result (TurnReply × Option AbendRecord) E

pub sound_turn : {E : Type 0} (law : HalfTurnsKeep) (r : RegionState) (name : List ℕ) (t left : TerminalState) (result : Answered E) (shared : SharedState) (later : Terminals)
    → Puts r name t left later → IsSound r
    → IfOk result (λ a. TurnedAt r.shared t a.0 shared left) → OnErr result ((shared ≡ r.shared) × (left ≡ t))
    → IsSoundStorage shared.storage → AreSoundQueues shared.queues → AreSoundResources shared.resources → IsSound (with_parts r shared later)
sound_turn law r name t left (Ok a) shared later puts ok turned err storage queues resources =
    sound_turned law r (with_parts r shared later) name a.0 ok (turned_whole r name t left a.0 shared later puts turned) storage queues resources
sound_turn law r name t left (Err e) shared later puts ok turned err storage queues resources =
    subst IsSound (sym (put_same r name t left shared later puts err.0 err.1)) ok

pub turned_seen : {E : Type 0} (r v : RegionState) (name : List ℕ) (t left : TerminalState) (result : Answered E) (shared : SharedState) (later : Terminals)
    → Puts r name t left later → r ≡ v
    → IfOk result (λ a. TurnedAt r.shared t a.0 shared left) → IfOk result (λ a. TakesTurn v name a.0 (with_parts r shared later))
turned_seen r v name t left (Ok a) shared later puts e turned =
    subst (λ (k : RegionState). TakesTurn k name a.0 (with_parts r shared later)) e (turned_whole r name t left a.0 shared later puts turned)
turned_seen r v name t left (Err refused) shared later puts e turned = tt

pub abend_record_seen : {E : Type 0} (r v : RegionState) (name : List ℕ) (t : TerminalState) (result : Answered E) → lookup (is_name name) r.terminals ≡ Some t → r ≡ v
    → IfOk result (λ both. HasAbendRecordAt r.shared t both.1) → IfOk result (λ both. TurnHasAbendRecord v name both.1)
unfolding TurnHasAbendRecord HasAbendRecordAt
abend_record_seen r v name t (Ok both) there e abend_record = rw (← e) (rw there abend_record)
abend_record_seen r v name t (Err refused) there e abend_record = tt

pub memory_seen : {E : Type 0} (r v : RegionState) (name : List ℕ) (t : TerminalState) (result : Answered E) → lookup (is_name name) r.terminals ≡ Some t → r ≡ v
    → OnErr result (TakesMemoryAt r.shared t) → OnErr result (MayTakeMemory v (event.Turn name))
unfolding MayTakeMemory TakesMemoryAt
memory_seen r v name t (Ok a) there e grows = tt
memory_seen r v name t (Err refused) there e grows = rw (← e) (rw there grows)

pub same_seen : {E : Type 0} (r v : RegionState) (name : List ℕ) (t left : TerminalState) (result : Answered E) (shared : SharedState) (later : Terminals)
    → Puts r name t left later → r ≡ v → OnErr result ((shared ≡ r.shared) × (left ≡ t)) → OnErr result (with_parts r shared later ≡ v)
same_seen r v name t left (Ok a) shared later puts e h = tt
same_seen r v name t left (Err refused) shared later puts e h = put_same r name t left shared later puts h.0 h.1 ∙ e
