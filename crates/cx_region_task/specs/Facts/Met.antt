-- What is known of a command that is done: it was read, its inputs were there, and its row said so.
use Rattle.std.proofs.Common.{◌≡◌, Bool, true, false, Option, Some, None, List, refl, sym, subst}
use Rattle.std.specs.Prelude.{Result, Ok, Err, MatchBool, MatchResult, not, if◌then◌else◌}
use Rattle.cx_base.specs.declared.abends.Abend.{Abend}
use Rattle.cx_base.specs.declared.abends.Abend.TheVariants as abend
use Rattle.cx_base.specs.Abends.{abend_code}
use Rattle.cx_base.specs.declared.conditions.Condition.{Condition}
use Rattle.cx_region_state.specs.declared.call.CallFault.{CallFault}
use Rattle.cx_region_state.specs.declared.outputs.Output.{Output}
use Rattle.cx_region_state.specs.Call.{Call, call_of}
use Rattle.cx_region_state.specs.Inputs.{are_inputs_there}
use Rattle.cx_region_commands.specs.CommandVerdicts.{HasVerdict}
use Rattle.cx_region_state.specs.declared.replies.TurnReply.{TurnReply}
use Rattle.cx_region_state.specs.declared.verdict.TaskChange.{TaskChange}
use Rattle.cx_region_state.specs.declared.verdict.Verdict.{Verdict}
use Rattle.cx_region_state.specs.declared.verdict.Verdict.TheVariants.{Refuses, Waits, Meets}
use Rattle.cx_region_state.specs.State.{TaskContext}
use Rattle.cx_region_task.specs.declared.cause.AbendRecord.{AbendRecord}
use Rattle.cx_region_task.specs.declared.continuation.Continuation.{Continuation}
use Rattle.cx_region_task.specs.declared.decision.Act.{Act}
use Rattle.cx_region_task.specs.declared.decision.Decision.{Decision}
use Rattle.cx_region_task.specs.declared.decision.Decision.TheVariants as decision
use Rattle.cx_region_task.specs.Abends.{Abends}
use Rattle.cx_region_task.specs.Changes.{Commits}
use Rattle.cx_region_task.specs.Continuations.{Goes, is_wait}
use Rattle.cx_region_task.specs.Decisions.{continuation_at, decision_by, has_room, wait_for}
use Rattle.cx_region_task.specs.Performing.{CarriesOut, Decides, DecidesCall, Does, LeavesAll, fault_abend, argument_list}
use Rattle.cx_region_task.specs.Turn.{PerformsCommand}

-- ---- before it is done
pub record IsToBeDone (act : Act) (r : TaskContext) : Type 0 where
  pub reads : call_of r.shared.storage (argument_list r.task) ≡ Ok act.call
  pub inputs : are_inputs_there r.shared.storage act.call ≡ true
  pub judged : HasVerdict act.call r (Meets act.condition act.outputs act.change)
  pub room : has_room act.call act.outputs act.change r ≡ true
  pub way : act.continuation ≡ continuation_at act.call act.condition act.change r
  pub moves : is_wait (continuation_at act.call act.condition act.change r) ≡ false

-- by its verdict
by_verdict : (act : Act) (r : TaskContext) (call : Call) (verdict : Verdict) → call_of r.shared.storage (argument_list r.task) ≡ Ok call → are_inputs_there r.shared.storage call ≡ true
    → HasVerdict call r verdict → decision.Act act ≡ decision_by call verdict r → IsToBeDone act r
unfolding decision_by
by_verdict act r call (Refuses refusal) reads there judged is = let no : decision.Act act ≡ decision.Refuse (Some call) refusal = is in cc
by_verdict act r call Waits reads there judged is = cc
by_verdict act r call (Meets condition outputs change) reads there judged is =
    met (has_room call outputs change r) refl (is_wait (continuation_at call condition change r)) refl is
  where
    done : Act
    done = record { call = call; condition = condition; outputs = outputs; change = change; continuation = continuation_at call condition change r }

    met : (room : Bool) → has_room call outputs change r ≡ room → (wait : Bool) → is_wait (continuation_at call condition change r) ≡ wait
        → decision.Act act ≡ (if not room then decision.Refuse (Some call) abend.Xarg else if wait then decision.Wait call (wait_for condition r.shared.storage call) else decision.Act done) → IsToBeDone act r
    met false room wait moves is = cc
    met true room true moves is = cc
    met true room false moves is =
        let same : act ≡ done = cc in
        subst (λ (a : Act). IsToBeDone a r) (sym same) (record { reads = reads; inputs = there; judged = judged; room = room; way = refl; moves = moves })

pub to_be_done : (act : Act) (r : TaskContext) → Decides r (decision.Act act) → IsToBeDone act r
unfolding Decides
to_be_done act r decides = by_call (call_of r.shared.storage (argument_list r.task)) refl decides
  where
    by_inputs : (call : Call) → call_of r.shared.storage (argument_list r.task) ≡ Ok call → (b : Bool) → are_inputs_there r.shared.storage call ≡ b
        → MatchBool b (DecidesCall call r (decision.Act act)) (decision.Act act ≡ decision.Refuse (Some call) abend.Xarg) → IsToBeDone act r
    by_inputs call reads true there it = by_verdict act r call it.verdict reads there it.judged it.is
    by_inputs call reads false there is = cc

    by_call : (read : Result Call CallFault) → call_of r.shared.storage (argument_list r.task) ≡ read
        → MatchResult read (λ call. MatchBool (are_inputs_there r.shared.storage call) (DecidesCall call r (decision.Act act)) (decision.Act act ≡ decision.Refuse (Some call) abend.Xarg))
        (λ fault. decision.Act act ≡ decision.Refuse None (fault_abend fault))
        → IsToBeDone act r
    by_call (Ok call) reads it = by_inputs call reads (are_inputs_there r.shared.storage call) refl it
    by_call (Err fault) reads is = cc

-- ---- when it is done
pub record IsMet (reply : TurnReply) (before after : TaskContext) : Type 0 where
  pub call : Call
  pub reads : call_of before.shared.storage (argument_list before.task) ≡ Ok call
  pub inputs : are_inputs_there before.shared.storage call ≡ true
  pub condition : Condition
  pub outputs : List Output
  pub change : TaskChange
  pub judged : HasVerdict call before (Meets condition outputs change)
  pub room : has_room call outputs change before ≡ true
  pub moves : is_wait (continuation_at call condition change before) ≡ false
  pub committed : TaskContext
  pub commits : Commits call condition outputs change before committed
  pub goes : Goes (continuation_at call condition change before) condition committed reply after

pub acts_met : (act : Act) (before after : TaskContext) (reply : TurnReply) → Decides before (decision.Act act) → Does act before reply after → IsMet reply before after
acts_met act before after reply decides does =
    let known = to_be_done act before decides in
    record {
      call = act.call;
      reads = known.reads;
      inputs = known.inputs;
      condition = act.condition;
      outputs = act.outputs;
      change = act.change;
      judged = known.judged;
      room = known.room;
      moves = known.moves;
      committed = does.committed;
      commits = does.commits;
      goes = subst (λ (gone : Continuation). Goes gone act.condition does.committed reply after) known.way does.goes;
    }

-- ---- a command that is performed: refused, left as it is, or done
pub by_decision : {P : Type 0} (before after : TaskContext) (reply : TurnReply) (abend_record : Option AbendRecord) → PerformsCommand before reply abend_record after
    → ((refusal : Abend) → Abends (abend_code refusal) false before reply after → P) → (LeavesAll before reply after → P) → (IsMet reply before after → P) → P
unfolding CarriesOut
by_decision {P} before after reply abend_record it refused left met = go it.decided it.decides it.carries
  where
    go : (decided : Decision) → Decides before decided → CarriesOut decided before reply after → P
    go (decision.Refuse call refusal) decides abends = refused refusal abends
    go (decision.Wait call wait) decides leaves = left leaves
    go (decision.Act act) decides does = met (acts_met act before after reply decides does)
