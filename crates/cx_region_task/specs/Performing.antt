-- The command that is due is decided, and the decision carried out (Application Programmer's Reference Manual,
-- SC33-0077, "Argument Values"; the order of the tests is this product's own): its list is read as a call, its inputs
-- are tested, and its row judges it.
use Rattle.std.specs.Prelude.{◌≡◌, ℕ, false, if◌then◌else◌, MatchBool, MatchResult, Option, Some, None, slice_index}
use Rattle.cx_base.specs.declared.abends.Abend.{Abend}
use Rattle.cx_base.specs.declared.abends.Abend.TheVariants as abend
use Rattle.cx_base.specs.Abends.{abend_code}
use Rattle.cx_base.specs.declared.conditions.Condition.{Condition}
use Rattle.cx_storage.specs.Address.{address_in}
use Rattle.cx_region_state.specs.declared.call.CallFault.{CallFault}
use Rattle.cx_region_state.specs.declared.call.CallFault.TheVariants.{Xarg, Xfun}
use Rattle.cx_region_state.specs.Call.{Call, call_of}
use Rattle.cx_region_state.specs.Inputs.{are_inputs_there}
use Rattle.cx_region_state.specs.declared.replies.TurnReply.{TurnReply}
use Rattle.cx_region_state.specs.declared.replies.TurnReply.TheVariants as turn
use Rattle.cx_region_state.specs.declared.verdict.Verdict.{Verdict}
use Rattle.cx_region_state.specs.State.{TaskContext, TaskState}
use Rattle.cx_region_commands.specs.CommandVerdicts.{HasVerdict}
use Rattle.cx_region_task.specs.declared.cause.Cause.{Cause}
use Rattle.cx_region_task.specs.declared.cause.Cause.TheVariants as cause
use Rattle.cx_region_task.specs.declared.continuation.Continuation.{Continuation}
use Rattle.cx_region_task.specs.declared.continuation.Continuation.TheVariants as continuation
use Rattle.cx_region_task.specs.declared.decision.Act.{Act}
use Rattle.cx_region_task.specs.declared.decision.Decision.{Decision}
use Rattle.cx_region_task.specs.declared.decision.Decision.TheVariants as decision
use Rattle.cx_region_task.specs.Abends.{Abends}
use Rattle.cx_region_task.specs.Changes.{Commits}
use Rattle.cx_region_task.specs.Continuations.{Goes, is_normal}
use Rattle.cx_region_task.specs.Decisions.{decision_by}

-- ---- decided
-- the address of the argument list: bits 8 to 31 of R1
abbrev pub argument_list : TaskState → ℕ
argument_list task = address_in (slice_index task.regs 1)

abbrev pub fault_abend : CallFault → Abend
fault_abend Xarg = abend.Xarg
fault_abend Xfun = abend.Xfun

-- a call whose inputs are in storage, by its row
pub record DecidesCall (call : Call) (r : TaskContext) (decided : Decision) : Type 0 where
  pub verdict : Verdict
  pub judged : HasVerdict call r verdict
  pub is : decided ≡ decision_by call verdict r

-- The command that is due: it is refused where its list can't be read, and where an input's byte, or one of RESP's
-- word, isn't in storage.
unfoldable pub Decides : TaskContext → Decision → Type 0
Decides r decided =
    MatchResult (call_of r.shared.storage (argument_list r.task))
    (λ call. MatchBool (are_inputs_there r.shared.storage call) (DecidesCall call r decided)
    (decided ≡ decision.Refuse (Some call) abend.Xarg))
    (λ fault. decided ≡ decision.Refuse None (fault_abend fault))

-- ---- carried out
-- a wait leaves all as it is
pub record LeavesAll (before : TaskContext) (reply : TurnReply) (after : TaskContext) : Type 0 where
  pub waiting : reply ≡ turn.Waiting
  pub same : after ≡ before

-- all that the command does is done, and from there the task goes its way
pub record Does (act : Act) (before : TaskContext) (reply : TurnReply) (after : TaskContext) : Type 0 where
  pub committed : TaskContext
  pub commits : Commits act.call act.condition act.outputs act.change before committed
  pub goes : Goes act.continuation act.condition committed reply after

unfoldable pub CarriesOut : Decision → TaskContext → TurnReply → TaskContext → Type 0
CarriesOut (decision.Refuse call refusal) before reply after = Abends (abend_code refusal) false before reply after
CarriesOut (decision.Wait call wait) before reply after = LeavesAll before reply after
CarriesOut (decision.Act act) before reply after = Does act before reply after

-- ---- why it leads to an abend
-- by the way of the task: an abend without a condition is one that the program asked for
abbrev pub continuation_cause : Continuation → Condition → Option Cause
continuation_cause (continuation.Abends code cancel) condition =
    Some (if is_normal condition then cause.Asked else cause.Met condition)
continuation_cause _ condition = None

abbrev pub decision_cause : Decision → Option Cause
decision_cause (decision.Refuse call refusal) = Some (cause.Refused refusal)
decision_cause (decision.Wait call wait) = None
decision_cause (decision.Act act) = continuation_cause act.continuation act.condition
