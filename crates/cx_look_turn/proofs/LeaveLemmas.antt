-- A turn of instructions that isn't answered as an abend leaves storage as they leave it.
use Rattle.std.proofs.Common.{◌≡◌, ℕ, Bool, true, false, Option, Some, None, List, subst, ap, ◌∙◌}
use Rattle.std.specs.Prelude.{MatchBool, MatchOption, if◌then◌else◌, option_and_then}
use Rattle.std.specs.Option.{option_map}
use Rattle.cx_exec.specs.Advance.{Advances}
use Rattle.cx_exec.specs.Machine.{Machine}
use Rattle.cx_exec.specs.declared.machine.Halt.{Halt}
use Rattle.cx_exec.specs.declared.machine.Halt.TheVariants as halt
use Rattle.cx_exec_laws.specs.Laws.Decide.{RunsDecide}
use Rattle.cx_region_state.specs.State.{TaskContext, TaskState}
use Rattle.cx_region_state.specs.declared.replies.TurnReply.{TurnReply}
use Rattle.cx_region_state.specs.declared.replies.TurnReply.TheVariants as turn
use Rattle.cx_region_task.specs.Laws.AbendRecords.{AbendRecordsExplain, Explains, is_abend}
use Rattle.cx_region_task.specs.Turn.{EndsRun, HalfTurnWith, PerformsCommand, RunsOn, abend_record_with, halt_cause, machine_of, most_steps}
use Rattle.cx_region_task.specs.declared.cause.AbendRecord.{AbendRecord}
use Rattle.cx_region_task.specs.declared.cause.Cause.TheVariants as cause
use Rattle.cx_region.specs.State.{RegionState, TerminalState}
use Rattle.cx_region.specs.Tables.{terminal_of}
use Rattle.cx_region.specs.Turn.{TakesTurn, TaskTakesTurn, context_of}
use Rattle.cx_look_turn.specs.Laws.{TurnsLeaveRuns}
use Rattle.cx_look_turn.specs.NextTurn.{runs_on}
use Rattle.cx_look_turn.specs.Traces.{Leaves}

abbrev pub RunsAreDecided : Type 0
RunsAreDecided = (limit : ℕ) → RunsDecide (Advances limit)

unexplained : (it : AbendRecord) (reply : TurnReply) → Explains (Some it) reply → is_abend reply ≡ false → ⊥
unexplained it turn.Idle is none = is
unexplained it turn.NoSuchTerminal is none = is
unexplained it turn.AtCommand is none = is
unexplained it (turn.Performed condition) is none = is
unexplained it turn.Entered is none = is
unexplained it turn.Returned is none = is
unexplained it turn.Waiting is none = is
unexplained it (turn.TookLabel condition) is none = is
unexplained it (turn.TookExit code) is none = cc
unexplained it (turn.Abended code) is none = cc
unexplained it turn.Ended is none = is

-- what comes after the run changes storage only by an abend
ends_same : (how : Halt) (before reached : TaskContext) (reply : TurnReply) (abend_record : Option AbendRecord) → EndsRun how before reply reached
    → abend_record ≡ option_map (abend_record_with None (machine_of before)) (halt_cause how) → Explains abend_record reply → is_abend reply ≡ false
    → reached.shared.storage ≡ before.shared.storage
unfolding EndsRun
ends_same halt.AtEntry before reached reply abend_record ends recorded explains none = ap (λ (r : TaskContext). r.shared.storage) ends.1
ends_same (halt.Interrupt interruption place) before reached reply abend_record ends recorded explains none =
    absurd (unexplained (abend_record_with None (machine_of before) (cause.Interrupted interruption)) reply (subst (λ (r : Option AbendRecord). Explains r reply) recorded explains) none)
ends_same halt.Limit before reached reply abend_record ends recorded explains none =
    absurd (unexplained (abend_record_with None (machine_of before) cause.Limit) reply (subst (λ (r : Option AbendRecord). Explains r reply) recorded explains) none)

run_left : RunsAreDecided → (before reached : TaskContext) (reply : TurnReply) (abend_record : Option AbendRecord) (left : Machine)
    → RunsOn before reply abend_record reached → Leaves most_steps (machine_of before) left → Explains abend_record reply → is_abend reply ≡ false
    → reached.shared.storage ≡ left.storage
run_left runs before reached reply abend_record left p leaves explains none =
    let same = (runs most_steps (machine_of before) p.how leaves.how (machine_of p.between) left p.advances leaves.advances).1 in
    ends_same p.how p.between reached reply abend_record p.ends p.recorded explains none ∙ ap (λ (m : Machine). m.storage) same

half_left : RunsAreDecided → (region : RegionState) (terminal : TerminalState) (task : TaskState) (m left : Machine) (reply : TurnReply)
    (abend_record : Option AbendRecord) (reached : TaskContext) (due : Bool)
    → (if due then None else Some (machine_of (context_of region terminal task))) ≡ Some m → Leaves most_steps m left
    → MatchBool due (PerformsCommand (context_of region terminal task) reply abend_record reached)
    (RunsOn (context_of region terminal task) reply abend_record reached)
    → Explains abend_record reply → is_abend reply ≡ false → reached.shared.storage ≡ left.storage
half_left runs region terminal task m left reply abend_record reached true ahead leaves turns explains none = cc
half_left runs region terminal task m left reply abend_record reached false ahead leaves turns explains none =
    let same : m ≡ machine_of (context_of region terminal task) = cc in
    run_left runs (context_of region terminal task) reached reply abend_record left turns
    (subst (λ (x : Machine). Leaves most_steps x left) same leaves) explains none

task_left : RunsAreDecided → AbendRecordsExplain → (region new : RegionState) (name : List ℕ) (terminal : TerminalState) (task : Option TaskState)
    (m left : Machine) (reply : TurnReply) → option_and_then (runs_on region.shared.storage) task ≡ Some m → Leaves most_steps m left
    → MatchOption task ((reply ≡ turn.Idle) × (new ≡ region)) (λ task. TaskTakesTurn region name terminal task reply new)
    → is_abend reply ≡ false → new.shared.storage ≡ left.storage
unfolding HalfTurnWith
task_left runs explain region new name terminal None m left reply ahead leaves turns none = cc
task_left runs explain region new name terminal (Some task) m left reply ahead leaves turns none =
    let half = turns.half_turn in
    let explains = explain (context_of region terminal task) turns.reached reply half.abend_record half
    (record { reply = reply; after = turns.reached; turns = half.turns }) in
    ap (λ (r : RegionState). r.shared.storage) turns.after
    ∙ half_left runs region terminal task m left reply half.abend_record turns.reached task.due ahead leaves half.turns explains none

terminal_left : RunsAreDecided → AbendRecordsExplain → (region new : RegionState) (name : List ℕ) (terminal : Option TerminalState)
    (m left : Machine) (reply : TurnReply)
    → option_and_then (runs_on region.shared.storage) (option_and_then (λ terminal. terminal.task) terminal) ≡ Some m → Leaves most_steps m left
    → MatchOption terminal ((reply ≡ turn.NoSuchTerminal) × (new ≡ region)) (λ terminal.
    MatchOption terminal.task ((reply ≡ turn.Idle) × (new ≡ region)) (λ task. TaskTakesTurn region name terminal task reply new))
    → is_abend reply ≡ false → new.shared.storage ≡ left.storage
terminal_left runs explain region new name None m left reply ahead leaves turns none = cc
terminal_left runs explain region new name (Some terminal) m left reply ahead leaves turns none =
    task_left runs explain region new name terminal terminal.task m left reply ahead leaves turns none

pub turns_leave_runs : RunsAreDecided → AbendRecordsExplain → TurnsLeaveRuns
unfolding TakesTurn
turns_leave_runs runs explain region new name reply m left ahead leaves turns none =
    terminal_left runs explain region new name (terminal_of region name) m left reply ahead leaves turns none
