-- The instructions that a run comes to are decided by the machine, and are those of the run; and those of a terminal's
-- next turn are those of the turn that is then done.
use Rattle.std.specs.Prelude.{◌≡◌, ℕ, ◌-◌, ◌<◌, ◌≤◌, false, List, [], ◌∷◌, ◌++◌, length, slice_get, Option, Some}
use Rattle.circular_buffer.specs.Buffer.{keep_last}
use Rattle.cx_exec.specs.Advance.{Advances, Passes}
use Rattle.cx_exec.specs.Machine.{Machine}
use Rattle.cx_exec.specs.Step.{Steps}
use Rattle.cx_exec.specs.declared.machine.Halt.{Halt}
use Rattle.cx_exec.specs.declared.machine.Halt.TheVariants as halt
use Rattle.cx_exec.specs.declared.machine.Interruption.{Interruption}
use Rattle.cx_exec.specs.declared.machine.Step.TheVariants.{Interrupt}
use Rattle.cx_region_state.specs.State.{TaskContext, TaskState}
use Rattle.cx_region_state.specs.declared.replies.TurnReply.{TurnReply}
use Rattle.cx_region_task.specs.declared.cause.AbendRecord.{AbendRecord}
use Rattle.cx_region_task.specs.Laws.AbendRecords.{is_abend}
use Rattle.cx_region_task.specs.Turn.{RunsOn, machine_of, most_steps}
use Rattle.cx_region.specs.State.{RegionState, TerminalState}
use Rattle.cx_region.specs.Tables.{terminal_of}
use Rattle.cx_region.specs.Turn.{TakesTurn, context_of, put_back, task_after}
use Rattle.cx_look_turn.specs.Traces.{IsTrace, Leaves, Visits, visit}
use Rattle.cx_look_turn.specs.NextTurn.{IsAhead, IsMachineAfter, machine_ahead}
use Rattle.cx_look_turn.specs.declared.traces.Trace.{Trace}
use Rattle.cx_look_turn.specs.declared.traces.Visit.{Visit}

abbrev pub TracesDecide : Type 0
TracesDecide = (limit : ℕ) (m : Machine) (most count other : ℕ) (last some : List Visit)
    → IsTrace limit m most count last → IsTrace limit m most other some → (count ≡ other) × (last ≡ some)

-- the k-th, counted from 0, is the instruction at the machine after k steps
pub record IsVisitAfter (k : ℕ) (m : Machine) (visits : List Visit) : Type 0 where
  pub now : Machine
  pub passes : Passes k m now
  pub is : slice_get visits k ≡ Some (visit now)

abbrev pub IsEachVisit : Machine → List Visit → Type 0
IsEachVisit m visits = (k : ℕ) → k < length visits → IsVisitAfter k m visits

-- the last one is interrupted
pub record IsInterrupted (cause : Interruption) (m after : Machine) (visits : List Visit) : Type 0 where
  pub done : List Visit
  pub before : Machine
  pub are : visits ≡ done ++ visit before ∷ []
  pub passes : Passes (length done) m before
  pub steps : Steps before (Interrupt cause) after

-- as many as a run of at most so many steps performs, by how it ends
abbrev pub AreAsMany : ℕ → Halt → Machine → Machine → List Visit → Type 0
AreAsMany limit (halt.Interrupt cause place) m after visits = IsInterrupted cause m after visits
AreAsMany limit halt.Limit m after visits = Passes (length visits) m after × (length visits ≡ limit)
AreAsMany limit halt.AtEntry m after visits = Passes (length visits) m after

abbrev pub AreOfRun : ℕ → Halt → Machine → Machine → List Visit → Type 0
AreOfRun limit how m after visits = AreAsMany limit how m after visits × IsEachVisit m visits

abbrev pub VisitsAreOfRuns : Type 0
VisitsAreOfRuns = (limit : ℕ) (m after : Machine) (how : Halt) (visits : List Visit)
    → Visits limit m visits → Advances limit m how after → AreOfRun limit how m after visits

-- The turn runs the task's instructions, and they are those of its run: as many as it performs, and the one that is
-- interrupted; and each is that at the machine after as many steps as come before it.
pub record RunsThem (region : RegionState) (name : List ℕ) (visits : List Visit) (reply : TurnReply) (new : RegionState)
    : Type 0 where
  pub terminal : TerminalState
  pub there : terminal_of region name ≡ Some terminal
  pub task : TaskState
  pub live : terminal.task ≡ Some task
  pub abend_record : Option AbendRecord
  pub reached : TaskContext
  pub runs : RunsOn (context_of region terminal task) reply abend_record reached
  pub are : AreOfRun most_steps runs.how (machine_of (context_of region terminal task)) (machine_of runs.between) visits
  pub is : new ≡ put_back region name reached (task_after reply reached.task)

-- so many are counted, and the last n of them are kept
pub record AreTraced (region : RegionState) (name : List ℕ) (n : ℕ) (trace : Trace) (reply : TurnReply)
    (new : RegionState) : Type 0 where
  pub visits : List Visit
  pub counted : trace.count ≡ length visits
  pub kept : trace.last.items ≡ keep_last n visits
  pub run : RunsThem region name visits reply new

abbrev pub TurnsRunThem : Type 0
TurnsRunThem = (region new : RegionState) (name : List ℕ) (n : ℕ) (trace : Trace) (reply : TurnReply)
    → IsAhead region name n (Some trace) → TakesTurn region name reply new → AreTraced region name n trace reply new

-- a turn of instructions that isn't answered as an abend leaves storage as they leave it
abbrev pub TurnsLeaveRuns : Type 0
TurnsLeaveRuns = (region new : RegionState) (name : List ℕ) (reply : TurnReply) (m left : Machine)
    → machine_ahead region name ≡ Some m → Leaves most_steps m left → TakesTurn region name reply new
    → is_abend reply ≡ false → new.shared.storage ≡ left.storage

-- ---- the machine after so many of them
abbrev pub MachinesAfterDecide : Type 0
MachinesAfterDecide = (m : Option Machine) (n : ℕ) (one other : Option Machine)
    → IsMachineAfter m n one → IsMachineAfter m n other → one ≡ other

-- The turn runs the task's instructions; after so many of them this is its machine, and the rest of its run goes on
-- from there.
pub record GoesOnFrom (region : RegionState) (name : List ℕ) (n : ℕ) (there : Machine) (reply : TurnReply)
    (new : RegionState) : Type 0 where
  pub terminal : TerminalState
  pub known : terminal_of region name ≡ Some terminal
  pub task : TaskState
  pub live : terminal.task ≡ Some task
  pub abend_record : Option AbendRecord
  pub reached : TaskContext
  pub runs : RunsOn (context_of region terminal task) reply abend_record reached
  pub passes : Passes n (machine_of (context_of region terminal task)) there
  pub rest : Advances (most_steps - n) there runs.how (machine_of runs.between)
  pub is : new ≡ put_back region name reached (task_after reply reached.task)

abbrev pub TurnsGoOnFrom : Type 0
TurnsGoOnFrom = (region new : RegionState) (name : List ℕ) (n : ℕ) (there : Machine) (reply : TurnReply)
    → IsMachineAfter (machine_ahead region name) n (Some there) → n ≤ most_steps → TakesTurn region name reply new
    → GoesOnFrom region name n there reply new
