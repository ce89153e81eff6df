-- What is decided is determined; who waits; and a wait leaves all as it is.
use Rattle.std.proofs.Common.{◌≡◌, ℕ, Bool, true, false, Option, Some, None, List, refl, sym, ◌∙◌, ap}
use Rattle.std.specs.Prelude.{Result, Ok, Err, MatchBool, MatchResult}
use Rattle.cx_base.specs.Abends.{abend_code}
use Rattle.cx_base.specs.declared.abends.Abend.TheVariants as abend
use Rattle.cx_base.specs.declared.conditions.Condition.{Condition}
use Rattle.cx_exec.specs.declared.machine.Halt.{Halt}
use Rattle.cx_exec.specs.declared.machine.Halt.TheVariants as halt
use Rattle.cx_region_state.specs.declared.call.CallFault.{CallFault}
use Rattle.cx_region_state.specs.Call.{Call, call_of}
use Rattle.cx_region_state.specs.Inputs.{are_inputs_there}
use Rattle.cx_region_commands.specs.Laws.Rows.{JudgedOnce}
use Rattle.cx_region_state.specs.declared.replies.TurnReply.{TurnReply}
use Rattle.cx_region_state.specs.declared.replies.TurnReply.TheVariants as turn
use Rattle.cx_region_state.specs.State.{TaskContext}
use Rattle.cx_region_task.specs.declared.continuation.Continuation.{Continuation}
use Rattle.cx_region_task.specs.declared.continuation.Continuation.TheVariants as continuation
use Rattle.cx_region_task.specs.declared.decision.Decision.{Decision}
use Rattle.cx_region_task.specs.declared.decision.Decision.TheVariants as decision
use Rattle.cx_region_task.specs.Abends.{Abends, AbendsAt}
use Rattle.cx_region_task.specs.Continuations.{Goes, is_wait}
use Rattle.cx_region_task.specs.Decisions.{continuation_at, waits}
use Rattle.cx_region_task.specs.Facts.Met.{acts_met}
use Rattle.cx_region_task.specs.Laws.Decisions.{DecisionsDecide, WaitsAreDecided, is_wait_reply}
use Rattle.cx_region_task.specs.Performing.{CarriesOut, Decides, DecidesCall, fault_abend, argument_list}
use Rattle.cx_region_task.specs.Turn.{EndsRun, HalfTurn, HalfTurnWith, PerformsCommand, RunsOn}

-- ---- what is decided is determined
pub decisions_decide : JudgedOnce → DecisionsDecide
unfolding Decides
decisions_decide once r one other h k = by_call (call_of r.shared.storage (argument_list r.task)) h k
  where
    by_inputs : (call : Call) (b : Bool) → MatchBool b (DecidesCall call r one) (one ≡ decision.Refuse (Some call) abend.Xarg)
        → MatchBool b (DecidesCall call r other) (other ≡ decision.Refuse (Some call) abend.Xarg) → one ≡ other
    by_inputs call true it that =
        let same : it.verdict ≡ that.verdict = once call r it.verdict that.verdict it.judged that.judged in
        it.is ∙ (rw same refl) ∙ sym that.is
    by_inputs call false it that = it ∙ sym that

    by_call : (read : Result Call CallFault)
        → MatchResult read (λ call. MatchBool (are_inputs_there r.shared.storage call) (DecidesCall call r one) (one ≡ decision.Refuse (Some call) abend.Xarg))
        (λ fault. one ≡ decision.Refuse None (fault_abend fault))
        → MatchResult read (λ call. MatchBool (are_inputs_there r.shared.storage call) (DecidesCall call r other) (other ≡ decision.Refuse (Some call) abend.Xarg))
        (λ fault. other ≡ decision.Refuse None (fault_abend fault))
        → one ≡ other
    by_call (Ok call) it that = by_inputs call (are_inputs_there r.shared.storage call) it that
    by_call (Err fault) it that = it ∙ sym that

-- ---- who waits
abend_replies : (code : List ℕ) (cancel : Bool) (mid after : TaskContext) (reply : TurnReply) → Abends code cancel mid reply after → is_wait_reply reply ≡ false
unfolding AbendsAt
abend_replies code cancel mid after reply it = go it.exit it.ends
  where
    go : (o : Option ℕ) → AbendsAt o code mid reply after → is_wait_reply reply ≡ false
    go None over = rw over.0 refl
    go (Some index) over = rw over.0 refl

goes_replies : (gone : Continuation) (condition : Condition) (committed after : TaskContext) (reply : TurnReply) → is_wait gone ≡ false → Goes gone condition committed reply after → is_wait_reply reply ≡ false
unfolding Goes
goes_replies continuation.GoesOn condition committed after reply moves goes = rw goes.0 refl
goes_replies (continuation.TakesLabel label) condition committed after reply moves goes = rw goes.0 refl
goes_replies continuation.Waits condition committed after reply moves goes = absurd (let no : true ≡ false = moves in cc)
goes_replies (continuation.Abends code cancel) condition committed after reply moves goes = abend_replies code cancel committed after reply goes
goes_replies (continuation.Enters level) condition committed after reply moves goes = rw goes.0 refl
goes_replies (continuation.Replaces level) condition committed after reply moves goes = rw goes.0 refl
goes_replies continuation.LevelEnds condition committed after reply moves goes = rw goes.0 refl
goes_replies continuation.TaskEnds condition committed after reply moves goes = rw goes.0 refl

carried_replies : (decided : Decision) (before after : TaskContext) (reply : TurnReply) → Decides before decided → CarriesOut decided before reply after → is_wait_reply reply ≡ waits decided
unfolding CarriesOut
carried_replies (decision.Refuse call refusal) before after reply decides it = abend_replies (abend_code refusal) false before after reply it
carried_replies (decision.Wait call wait) before after reply decides it = rw it.waiting refl
carried_replies (decision.Act act) before after reply decides it =
    let met = acts_met act before after reply decides it in
    goes_replies (continuation_at met.call met.condition met.change before) met.condition met.committed after reply met.moves met.goes

halts : (how : Halt) (mid after : TaskContext) (reply : TurnReply) → EndsRun how mid reply after → is_wait_reply reply ≡ false
unfolding EndsRun
halts halt.AtEntry mid after reply it = rw it.0 refl
halts (halt.Interrupt cause place) mid after reply abends = abend_replies (abend_code abend.Asra) false mid after reply abends
halts halt.Limit mid after reply abends = abend_replies (abend_code abend.Aica) false mid after reply abends

pub waits_are_decided : JudgedOnce → WaitsAreDecided
unfolding HalfTurnWith
waits_are_decided once before after reply half = by_due before.task.due half.turns
  where
    by_due : (b : Bool) → MatchBool b (PerformsCommand before reply half.abend_record after) (RunsOn before reply half.abend_record after)
        → MatchBool b ((decided : Decision) → Decides before decided → is_wait_reply reply ≡ waits decided) (is_wait_reply reply ≡ false)
    by_due true it =
        λ decided decides. carried_replies it.decided before after reply it.decides it.carries ∙ ap waits (decisions_decide once before it.decided decided it.decides decides)
    by_due false runs = halts runs.how runs.between after reply runs.ends

-- ---- a wait leaves all as it is
carried_leaves : (decided : Decision) (before after : TaskContext) → waits decided ≡ true → CarriesOut decided before turn.Waiting after → after ≡ before
unfolding CarriesOut
carried_leaves (decision.Refuse call refusal) before after waits it = absurd (let no : false ≡ true = waits in cc)
carried_leaves (decision.Wait call wait) before after waits it = it.same
carried_leaves (decision.Act act) before after waits it = absurd (let no : false ≡ true = waits in cc)

pub waits_leave : (before after : TaskContext) → HalfTurn before turn.Waiting after → after ≡ before
unfolding HalfTurnWith
waits_leave before after half = by_due before.task.due half.turns
  where
    by_due : (b : Bool) → MatchBool b (PerformsCommand before turn.Waiting half.abend_record after) (RunsOn before turn.Waiting half.abend_record after) → after ≡ before
    by_due true it = carried_leaves it.decided before after (sym (carried_replies it.decided before after turn.Waiting it.decides it.carries)) it.carries
    by_due false runs = absurd (let no : true ≡ false = halts runs.how runs.between after turn.Waiting runs.ends in cc)
