-- The texts of TASKS, of tasks that wait, and of RESOURCES are determined.
use Rattle.std.proofs.Common.{◌≡◌, ℕ, List, [], ◌∷◌, codes, refl, sym, ap, ◌∙◌}
use Rattle.std.specs.List.{flat_map}
use Rattle.cx_region.specs.State.{RegionState, TerminalState}
use Rattle.cx_look_lines.specs.Words.{or_none}
use Rattle.cx_look_tasks.specs.Activities.{AreActivities}
use Rattle.cx_look_tasks.specs.Laws.{ActivitiesDecide, ResourcesTextsDecide, TasksTextsDecide, WaitsTextsDecide}
use Rattle.cx_look_tasks.specs.Tasks.{of_each, resource_lines, task_line, waiting_line}
use Rattle.cx_look_tasks.specs.declared.activities.Activity.{Activity}

are_once : ActivitiesDecide → (region : RegionState) (entries : List (List ℕ × TerminalState)) (one other : List Activity)
    → AreActivities region entries one → AreActivities region entries other → one ≡ other
unfolding AreActivities
are_once once region [] [] [] p q = refl
are_once once region [] [] (y ∷ ys) p q = absurd q
are_once once region [] (x ∷ xs) other p q = absurd p
are_once once region (entry ∷ entries) [] other p q = absurd p
are_once once region (entry ∷ entries) (x ∷ xs) [] p q = absurd q
are_once once region (entry ∷ entries) (x ∷ xs) (y ∷ ys) p q = rw (once region entry.1 x y p.0 q.0, are_once once region entries xs ys p.1 q.1) refl

pub tasks_texts_decide : ActivitiesDecide → TasksTextsDecide
tasks_texts_decide once region one other p q =
    p.is
    ∙ ap (λ activities. or_none (codes "TASKS") (of_each (task_line region) region.terminals activities))
    (are_once once region region.terminals p.activities q.activities p.are q.are)
    ∙ sym q.is

pub waits_texts_decide : ActivitiesDecide → WaitsTextsDecide
waits_texts_decide once region one other p q =
    p.is
    ∙ ap (λ activities. of_each (waiting_line region) region.terminals activities)
    (are_once once region region.terminals p.activities q.activities p.are q.are)
    ∙ sym q.is

pub resources_texts_decide : ActivitiesDecide → ResourcesTextsDecide
resources_texts_decide once region one other p q =
    p.is
    ∙ ap (λ activities. or_none (codes "RESOURCES") (flat_map (resource_lines region activities) region.shared.resources))
    (are_once once region region.terminals p.activities q.activities p.are q.are)
    ∙ sym q.is
