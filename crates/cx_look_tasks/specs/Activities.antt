-- What the task of a terminal is doing: where a command is due, what its turn would decide of it now (own).
use Rattle.std.specs.Prelude.{◌≡◌, Bool, true, false, List, [], ◌∷◌, ℕ, MatchBool, MatchOption, ⊤}
use Rattle.cx_region_state.specs.State.{TaskContext}
use Rattle.cx_region_task.specs.declared.decision.Decision.{Decision}
use Rattle.cx_region_task.specs.declared.decision.Decision.TheVariants as decision
use Rattle.cx_region_task.specs.Decisions.{decided_command}
use Rattle.cx_region_task.specs.Performing.{Decides}
use Rattle.cx_region.specs.State.{RegionState, TerminalState}
use Rattle.cx_region.specs.Turn.{context_of}
use Rattle.cx_look_tasks.specs.declared.activities.Activity.{Activity}
use Rattle.cx_look_tasks.specs.declared.activities.Activity.TheVariants.{Due, NoTask, Running, Waiting}

-- a command that is refused is due too: its turn abends
abbrev pub activity_by : Decision → Activity
activity_by (decision.Wait call wait) = Waiting wait
activity_by decided = Due (decided_command decided)

pub record ActsByCommand (r : TaskContext) (activity : Activity) : Type 0 where
  pub decided : Decision
  pub decides : Decides r decided
  pub is : activity ≡ activity_by decided

unfoldable pub HasActivity : TaskContext → Activity → Type 0
HasActivity r activity = MatchBool r.task.due (ActsByCommand r activity) (activity ≡ Running)

-- what a terminal's task is doing
unfoldable pub IsActivity : RegionState → TerminalState → Activity → Type 0
IsActivity region terminal activity =
    MatchOption terminal.task (activity ≡ NoTask) (λ task. HasActivity (context_of region terminal task) activity)

-- of each terminal in turn
unfoldable pub AreActivities : RegionState → List (List ℕ × TerminalState) → List Activity → Type 0
AreActivities region [] [] = ⊤
AreActivities region (entry ∷ entries) (activity ∷ activities) =
    IsActivity region entry.1 activity × AreActivities region entries activities
AreActivities region _ _ = ⊥

-- the next turn runs instructions, or performs a command
abbrev pub is_acting : Activity → Bool
is_acting Running = true
is_acting (Due command) = true
is_acting _ = false

abbrev pub is_waiting : Activity → Bool
is_waiting (Waiting wait) = true
is_waiting _ = false
