-- The instructions of a terminal's next turn are those of the turn that is then done.
use Rattle.std.proofs.Common.{refl}
use Rattle.std.specs.Prelude.{◌≡◌, ℕ, Bool, true, false, if◌then◌else◌, Option, Some, None, option_and_then, MatchBool, MatchOption, IsSomeAnd, List}
use Rattle.cx_exec.specs.Machine.{Machine}
use Rattle.cx_region_state.specs.declared.replies.TurnReply.{TurnReply}
use Rattle.cx_region_state.specs.declared.replies.TurnReply.TheVariants as turn
use Rattle.cx_region_state.specs.State.{TaskContext, TaskState}
use Rattle.cx_region_task.specs.declared.cause.AbendRecord.{AbendRecord}
use Rattle.cx_region_task.specs.Turn.{HalfTurnWith, PerformsCommand, RunsOn, machine_of, most_steps}
use Rattle.cx_region.specs.State.{RegionState, TerminalState}
use Rattle.cx_region.specs.Tables.{terminal_of}
use Rattle.cx_region.specs.Turn.{TakesTurn, TaskTakesTurn, context_of, put_back, task_after}
use Rattle.cx_look_turn.specs.Laws.{AreTraced, TurnsRunThem, VisitsAreOfRuns}
use Rattle.cx_look_turn.specs.NextTurn.{IsAhead, runs_on}
use Rattle.cx_look_turn.specs.Traces.{IsTrace}
use Rattle.cx_look_turn.specs.declared.traces.Trace.{Trace}

AreOf : ℕ → Option Machine → Option Trace → Type 0
AreOf n m trace = MatchOption m (trace ≡ None) (λ m. IsSomeAnd trace (λ it. IsTrace most_steps m n it.count it.last.items))

of_run : VisitsAreOfRuns → (region new : RegionState) (name : List ℕ) (n : ℕ) (trace : Trace) (reply : TurnReply) (terminal : TerminalState)
    (task : TaskState) (abend_record : Option AbendRecord) (reached : TaskContext) (due : Bool) → terminal_of region name ≡ Some terminal
    → terminal.task ≡ Some task
    → AreOf n (if due then None else Some (machine_of (context_of region terminal task))) (Some trace)
    → MatchBool due (PerformsCommand (context_of region terminal task) reply abend_record reached)
    (RunsOn (context_of region terminal task) reply abend_record reached)
    → new ≡ put_back region name reached (task_after reply reached.task) → AreTraced region name n trace reply new
unfolding AreOf
of_run of_runs region new name n trace reply terminal task abend_record reached true there live are turns is = absurd (cc)
of_run of_runs region new name n trace reply terminal task abend_record reached false there live are turns is =
    let m = machine_of (context_of region terminal task) in
    record {
      visits = are.visits;
      counted = are.counted;
      kept = are.kept;
      run = record {
        terminal = terminal;
        there = there;
        task = task;
        live = live;
        abend_record = abend_record;
        reached = reached;
        runs = turns;
        are = of_runs most_steps m (machine_of turns.between) turns.how are.visits are.are turns.advances;
        is = is;
      };
    }

on_task : VisitsAreOfRuns → (region new : RegionState) (name : List ℕ) (n : ℕ) (trace : Trace) (reply : TurnReply) (terminal : TerminalState)
    (task : Option TaskState) → terminal_of region name ≡ Some terminal → terminal.task ≡ task
    → AreOf n (option_and_then (runs_on region.shared.storage) task) (Some trace)
    → MatchOption task ((reply ≡ turn.Idle) × (new ≡ region)) (λ task. TaskTakesTurn region name terminal task reply new)
    → AreTraced region name n trace reply new
unfolding HalfTurnWith AreOf
on_task of_runs region new name n trace reply terminal None there live are turns = absurd (cc)
on_task of_runs region new name n trace reply terminal (Some task) there live are turns =
    of_run of_runs region new name n trace reply terminal task turns.half_turn.abend_record turns.reached task.due there live are turns.half_turn.turns
    turns.after

on_terminal : VisitsAreOfRuns → (region new : RegionState) (name : List ℕ) (n : ℕ) (trace : Trace) (reply : TurnReply)
    (terminal : Option TerminalState) → terminal_of region name ≡ terminal
    → AreOf n (option_and_then (runs_on region.shared.storage) (option_and_then (λ terminal. terminal.task) terminal)) (Some trace)
    → MatchOption terminal ((reply ≡ turn.NoSuchTerminal) × (new ≡ region)) (λ terminal.
    MatchOption terminal.task ((reply ≡ turn.Idle) × (new ≡ region)) (λ task. TaskTakesTurn region name terminal task reply new))
    → AreTraced region name n trace reply new
unfolding AreOf
on_terminal of_runs region new name n trace reply None there are turns = absurd (cc)
on_terminal of_runs region new name n trace reply (Some terminal) there are turns =
    on_task of_runs region new name n trace reply terminal terminal.task there refl are turns

pub turns_run_them : VisitsAreOfRuns → TurnsRunThem
unfolding TakesTurn IsAhead AreOf
turns_run_them of_runs region new name n trace reply ahead turns =
    on_terminal of_runs region new name n trace reply (terminal_of region name) refl ahead turns
