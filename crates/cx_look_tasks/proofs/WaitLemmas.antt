-- Who waits, by a half-turn and by what is reported of it.
use Rattle.std.proofs.Common.{◌≡◌, Bool, true, false, Option, Some, None, refl, sym, ◌∙◌, ap}
use Rattle.std.specs.Prelude.{MatchBool, MatchOption}
use Rattle.cx_region_state.specs.declared.replies.TurnReply.{TurnReply}
use Rattle.cx_region_state.specs.declared.replies.TurnReply.TheVariants as turn
use Rattle.cx_region_state.specs.State.{TaskContext, TaskState}
use Rattle.cx_region_task.specs.declared.decision.Decision.{Decision}
use Rattle.cx_region_task.specs.declared.decision.Decision.TheVariants as decision
use Rattle.cx_region_task.specs.Decisions.{waits}
use Rattle.cx_region_task.specs.Laws.Decisions.{DecisionsDecide, WaitsAreDecided, is_wait_reply}
use Rattle.cx_region_task.specs.Performing.{Decides}
use Rattle.cx_region_task.specs.Turn.{HalfTurn}
use Rattle.cx_region.specs.Turn.{TaskTakesTurn, TakesTurn, context_of}
use Rattle.cx_look_tasks.specs.Activities.{HasActivity, ActsByCommand, IsActivity, activity_by, is_waiting}
use Rattle.cx_look_tasks.specs.Laws.{ActivitiesDecide, WaitsAreReported}
use Rattle.cx_look_tasks.specs.declared.activities.Activity.{Activity}
use Rattle.cx_look_tasks.specs.declared.activities.Activity.TheVariants.{NoTask, Running}

-- ---- the reply of a half-turn
reported : (decided : Decision) → is_waiting (activity_by decided) ≡ waits decided
reported (decision.Refuse call refusal) = refl
reported (decision.Wait call wait) = refl
reported (decision.Act act) = refl

half : WaitsAreDecided → (before after : TaskContext) (reply : TurnReply) (activity : Activity) → HalfTurn before reply after → HasActivity before activity → is_wait_reply reply ≡ is_waiting activity
unfolding HasActivity
half law before after reply activity turns acts = by_due before.task.due (law before after reply turns) acts
  where
    by_due : (b : Bool) → MatchBool b ((decided : Decision) → Decides before decided → is_wait_reply reply ≡ waits decided) (is_wait_reply reply ≡ false)
        → MatchBool b (ActsByCommand before activity) (activity ≡ Running) → is_wait_reply reply ≡ is_waiting activity
    by_due true waits it = waits it.decided it.decides ∙ sym (reported it.decided) ∙ sym (ap is_waiting it.is)
    by_due false none is = none ∙ sym (ap is_waiting is)

pub waits_are_reported : WaitsAreDecided → WaitsAreReported
unfolding TakesTurn IsActivity
waits_are_reported law region new name terminal activity reply found acts turned = by_task terminal.task (rw found at turned) acts
  where
    by_task : (t : Option TaskState) → MatchOption t ((reply ≡ turn.Idle) × (new ≡ region)) (λ task. TaskTakesTurn region name terminal task reply new)
        → MatchOption t (activity ≡ NoTask) (λ task. HasActivity (context_of region terminal task) activity) → is_wait_reply reply ≡ is_waiting activity
    by_task None idle is = rw (idle.0, is) refl
    by_task (Some task) it acts = half law (context_of region terminal task) it.reached reply activity it.half_turn acts

-- ---- what is reported is determined
acts_once : DecisionsDecide → (r : TaskContext) (one other : Activity) → HasActivity r one → HasActivity r other → one ≡ other
unfolding HasActivity
acts_once once r one other first second = by_due r.task.due first second
  where
    by_due : (b : Bool) → MatchBool b (ActsByCommand r one) (one ≡ Running) → MatchBool b (ActsByCommand r other) (other ≡ Running) → one ≡ other
    by_due true it that = it.is ∙ ap activity_by (once r it.decided that.decided it.decides that.decides) ∙ sym that.is
    by_due false it that = it ∙ sym that

pub activities_decide : DecisionsDecide → ActivitiesDecide
unfolding IsActivity
activities_decide once region terminal one other first second = by_task terminal.task first second
  where
    by_task : (t : Option TaskState) → MatchOption t (one ≡ NoTask) (λ task. HasActivity (context_of region terminal task) one)
        → MatchOption t (other ≡ NoTask) (λ task. HasActivity (context_of region terminal task) other) → one ≡ other
    by_task None it that = it ∙ sym that
    by_task (Some task) it that = acts_once once (context_of region terminal task) one other it that
