-- One half-turn of a live task (this product's own): its instructions run, or the command that is due is performed.
use Rattle.std.specs.Prelude.{◌≡◌, ℕ, true, false, [], ◌∷◌, map, Option, Some, None, MatchBool}
use Rattle.std.specs.Option.{option_map}
use Rattle.cx_exec.specs.declared.machine.Halt.{Halt}
use Rattle.cx_exec.specs.declared.machine.Halt.TheVariants as halt
use Rattle.cx_exec.specs.Machine.{Machine}
use Rattle.cx_exec.specs.Advance.{Advances}
use Rattle.cx_program.specs.Levels.{with_current}
use Rattle.cx_storage.specs.Address.{address_after}
use Rattle.cx_storage.specs.Storage.{byte_at}
use Rattle.cx_base.specs.declared.abends.Abend.TheVariants as abend
use Rattle.cx_base.specs.declared.commands.Command.{Command}
use Rattle.cx_base.specs.Abends.{abend_code}
use Rattle.cx_region_state.specs.declared.replies.TurnReply.{TurnReply}
use Rattle.cx_region_state.specs.declared.replies.TurnReply.TheVariants as turn
use Rattle.cx_region_state.specs.State.{TaskContext, TaskState}
use Rattle.cx_region_task.specs.declared.cause.AbendRecord.{AbendRecord}
use Rattle.cx_region_task.specs.declared.cause.Cause.{Cause}
use Rattle.cx_region_task.specs.declared.cause.Cause.TheVariants as cause
use Rattle.cx_region_task.specs.declared.decision.Act.{Act}
use Rattle.cx_region_task.specs.declared.decision.Decision.{Decision}
use Rattle.cx_region_task.specs.declared.decision.Decision.TheVariants as decision
use Rattle.cx_region_task.specs.Abends.{Abends}
use Rattle.cx_region_task.specs.Changes.{change_takes_memory}
use Rattle.cx_region_task.specs.Decisions.{decided_command}
use Rattle.cx_region_task.specs.Performing.{CarriesOut, Decides, decision_cause}

-- the most instructions of a half-turn
abbrev pub most_steps : ℕ
most_steps = 65536

-- the machine that a task runs on, and what is reached after the machine ran
abbrev pub machine_of : TaskContext → Machine
machine_of r = record { regs = r.task.regs; cc = r.task.cc; next = r.task.next; storage = r.shared.storage }

abbrev pub after_machine : TaskContext → Machine → TaskContext
after_machine r machine =
    record r {
      shared = record r.shared { storage = machine.storage };
      task = record r.task { regs = machine.regs; cc = machine.cc; next = machine.next };
    }

-- a cause, with what the machine has, and the six bytes from its next address on, each where it is in storage
abbrev pub abend_record_with : Option Command → Machine → Cause → AbendRecord
abend_record_with command m why =
    let bytes = map (λ k. byte_at m.storage (address_after m.next k)) (0 ∷ 1 ∷ 2 ∷ 3 ∷ 4 ∷ 5 ∷ []) in
    record { cause = why; command = command; regs = m.regs; cc = m.cc; next = m.next; bytes = bytes }

-- a command is due, and the level keeps registers and code
abbrev pub at_command : TaskState → TaskState
at_command task =
    record task {
      levels = with_current task.levels (record task.levels.current { regs = task.regs; cc = task.cc });
      due = true;
    }

-- by how the instructions ended
unfoldable pub EndsRun : Halt → TaskContext → TurnReply → TaskContext → Type 0
EndsRun halt.AtEntry before reply after =
    (reply ≡ turn.AtCommand) × (after ≡ record before { task = at_command before.task })
EndsRun (halt.Interrupt cause place) before reply after = Abends (abend_code abend.Asra) false before reply after
EndsRun halt.Limit before reply after = Abends (abend_code abend.Aica) false before reply after

abbrev pub halt_cause : Halt → Option Cause
halt_cause halt.AtEntry = None
halt_cause (halt.Interrupt interruption place) = Some (cause.Interrupted interruption)
halt_cause halt.Limit = Some cause.Limit

-- instructions run; where they lead to an abend, its record is of the machine as they left it
pub record RunsOn (before : TaskContext) (reply : TurnReply) (abend_record : Option AbendRecord) (after : TaskContext)
    : Type 0 where
  pub how : Halt
  pub between : TaskContext
  pub advances : Advances most_steps (machine_of before) how (machine_of between)
  pub rest : between ≡ after_machine before (machine_of between)
  pub ends : EndsRun how between reply after
  pub recorded : abend_record ≡ option_map (abend_record_with None (machine_of between)) (halt_cause how)

-- the command that is due is performed; where it leads to an abend, its record is of the machine as the command found
-- it
pub record PerformsCommand (before : TaskContext) (reply : TurnReply) (abend_record : Option AbendRecord)
    (after : TaskContext) : Type 0 where
  pub decided : Decision
  pub decides : Decides before decided
  pub carries : CarriesOut decided before reply after
  pub recorded : abend_record
      ≡ option_map (abend_record_with (decided_command decided) (machine_of before)) (decision_cause decided)

-- one half-turn of a live task, with the record of an abend to which it leads
unfoldable pub HalfTurnWith : TaskContext → TurnReply → Option AbendRecord → TaskContext → Type 0
HalfTurnWith before reply abend_record after =
    MatchBool before.task.due (PerformsCommand before reply abend_record after) (RunsOn before reply abend_record after)

pub record HalfTurn (before : TaskContext) (reply : TurnReply) (after : TaskContext) : Type 0 where
  pub abend_record : Option AbendRecord
  pub turns : HalfTurnWith before reply abend_record after

-- the record of an abend to which a half-turn leads; None where it leads to none
pub record HasAbendRecord (before : TaskContext) (abend_record : Option AbendRecord) : Type 0 where
  pub reply : TurnReply
  pub after : TaskContext
  pub turns : HalfTurnWith before reply abend_record after

-- A half-turn takes memory only where a command is due whose change takes some, and nothing refuses it or lets it wait.
pub record TakesMemory (before : TaskContext) : Type 0 where
  pub due : before.task.due ≡ true
  pub act : Act
  pub decides : Decides before (decision.Act act)
  pub takes : change_takes_memory act.change ≡ true
