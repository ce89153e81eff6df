-- What a verdict on a call comes to, before anything changes (Application Programmer's Reference Manual, SC33-0077,
-- "Exceptional conditions"; the order of tests is this product's own).
use Rattle.std.specs.Prelude.{Bool, true, false, not, if◌then◌else◌, List, Option, Some, None}
use Rattle.std.specs.Option.{option_map}
use Rattle.cx_base.specs.declared.abends.Abend.TheVariants.{Xarg}
use Rattle.cx_base.specs.declared.commands.Command.{Command}
use Rattle.cx_base.specs.declared.conditions.Condition.{Condition}
use Rattle.cx_base.specs.declared.conditions.Condition.TheVariants.{Enqbusy, Nospace}
use Rattle.cx_base.specs.declared.options.OptionName.TheVariants.{Queue}
use Rattle.cx_storage.specs.Storage.{Storage}
use Rattle.cx_service.specs.declared.resources.ResourceName.{ResourceName}
use Rattle.cx_region_state.specs.declared.outputs.Output.{Output}
use Rattle.cx_region_state.specs.Call.{Call}
use Rattle.cx_region_state.specs.Inputs.{bytes_of}
use Rattle.cx_region_state.specs.Outputs.{can_put}
use Rattle.cx_region_state.specs.declared.verdict.TaskChange.{TaskChange}
use Rattle.cx_region_state.specs.declared.verdict.Verdict.{Verdict}
use Rattle.cx_region_state.specs.declared.verdict.Verdict.TheVariants.{Refuses, Waits, Meets}
use Rattle.cx_region_state.specs.State.{TaskContext}
use Rattle.cx_region_state.specs.Verdicts.{handed_over}
use Rattle.cx_region_commands.specs.Enq.{is_wrong_length, resource_named}
use Rattle.cx_region_task.specs.declared.continuation.Continuation.{Continuation}
use Rattle.cx_region_task.specs.declared.decision.Decision.{Decision}
use Rattle.cx_region_task.specs.declared.decision.Decision.TheVariants as decision
use Rattle.cx_region_task.specs.declared.decision.Wait.{Wait}
use Rattle.cx_region_task.specs.declared.decision.Wait.TheVariants as wait
use Rattle.cx_region_task.specs.Continuations.{is_wait, continuation_of}

-- the outputs' bytes are in storage as the command found it
unfoldable pub has_room : Call → List Output → TaskChange → TaskContext → Bool
has_room call outputs change r = can_put r.shared.storage call (handed_over change r) outputs

-- the way of the task
abbrev pub continuation_at : Call → Condition → TaskChange → TaskContext → Continuation
continuation_at call condition change r =
    continuation_of call r.task.levels.current.handles.active.entries condition change

-- the resource that the command names
abbrev pub resource_waited : Storage → Call → Option ResourceName
resource_waited s call = if is_wrong_length s call then None else resource_named s call

-- what a command that meets a condition waits for: by ENQBUSY a resource, by NOSPACE room in a queue, by NOSTG storage
abbrev pub wait_for : Condition → Storage → Call → Wait
wait_for Enqbusy s call = wait.Resource (resource_waited s call)
wait_for Nospace s call = wait.Room (bytes_of s call Queue 8)
wait_for _ s call = wait.Storage

-- Where an output's byte isn't in storage the command is refused; else it waits, or is done.
unfoldable pub decision_by : Call → Verdict → TaskContext → Decision
decision_by call (Refuses abend) r = decision.Refuse (Some call) abend
decision_by call Waits r = decision.Wait call wait.Input
decision_by call (Meets condition outputs change) r =
    let continuation = continuation_at call condition change r in
    if not (has_room call outputs change r) then decision.Refuse (Some call) Xarg
    else if is_wait continuation then decision.Wait call (wait_for condition r.shared.storage call)
    else decision.Act
    (record { call = call; condition = condition; outputs = outputs; change = change; continuation = continuation })

-- the command, where its argument list can be read
abbrev pub decided_command : Decision → Option Command
decided_command (decision.Refuse call abend) = option_map (λ call. call.command) call
decided_command (decision.Wait call wait) = Some call.command
decided_command (decision.Act act) = Some act.call.command

abbrev pub waits : Decision → Bool
waits (decision.Wait call wait) = true
waits _ = false
