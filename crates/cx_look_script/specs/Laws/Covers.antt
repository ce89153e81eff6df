-- What COVERED tells adds up over the actions since COVER ON (own).
use Rattle.std.specs.Prelude.{◌≡◌, ℕ, Bool, true, false, Option, Some, None, List, [], ◌∷◌, ◌++◌, length}
use Rattle.std.specs.List.{AllByRecursion}
use Rattle.cx_edf.specs.Steps.{DisplayMaker}
use Rattle.cx_exec.specs.Machine.{Machine}
use Rattle.cx_exec.specs.Passages.{Passage, Passages}
use Rattle.cx_exec.specs.declared.tallied.Tally.{Tally}
use Rattle.cx_region_task.specs.Turn.{most_steps}
use Rattle.cx_script_actions.specs.declared.actions.Action.{Action}
use Rattle.cx_script_actions.specs.declared.actions.Action.TheVariants as edf_action
use Rattle.cx_script.specs.Transcript.{PerformsAll}
use Rattle.cx_look_cover.specs.Laws.{CountedRun, CountsThem, IsInRange, counted_at}
use Rattle.cx_look_cover.specs.Tallies.{programs_end}
use Rattle.cx_look_script.specs.Covered.{machine_run}
use Rattle.cx_look_script.specs.Laws.Looks.{ActionPart, IsPart}
use Rattle.cx_look_script.specs.Looking.{LookPerforms}
use Rattle.cx_look_script.specs.State.{LookState}
use Rattle.cx_look_script.specs.declared.action.LookAction.{LookAction}
use Rattle.cx_look_script.specs.declared.action.LookAction.TheVariants as action

abbrev pub is_cover : LookAction → Bool
is_cover (action.Cover on) = true
is_cover _ = false

-- ---- the runs of actions
-- the run of a machine, with the end of the programs then; none where there is no machine
abbrev pub IsMachineRun : Option Machine → ℕ → List CountedRun → Type 0
IsMachineRun None end runs = runs ≡ []
IsMachineRun (Some m) end runs =
    (passages : List Passage) × Passages most_steps m passages
    × (runs ≡ (let run : CountedRun = record { end = end; passages = passages } in run) ∷ [])

-- that of an action of `cicsedf`, an event that is a turn which EDF doesn't hold
abbrev pub IsActionRun : LookState → Action → List CountedRun → Type 0
IsActionRun old (edf_action.Event e) runs =
    IsMachineRun (machine_run old.edf e) (programs_end old.edf.region.shared.programs) runs
IsActionRun old _ runs = runs ≡ []

-- of the actions of a part, which are one at most
abbrev pub IsPartRun : LookState → List Action → List CountedRun → Type 0
IsPartRun old (a ∷ actions) runs = IsActionRun old a runs
IsPartRun old [] runs = runs ≡ []

-- an action as a part of a run of `cicsedf`, and what that runs
pub record IsRunOfAction (old : LookState) (a : LookAction) (runs : List CountedRun) : Type 0 where
  pub part : ActionPart
  pub is : IsPart old a part
  pub ran : IsPartRun old part.plain runs

-- those of actions that are done one after another
unfoldable pub AreRunsOf : DisplayMaker → LookState → List LookAction → List CountedRun → LookState → Type 0
AreRunsOf make old [] runs new = (runs ≡ []) × (new ≡ old)
AreRunsOf make old (a ∷ actions) runs new =
    (between : LookState) × (text : List ℕ) × (first later : List CountedRun) × LookPerforms make old a text between
    × IsRunOfAction old a first × AreRunsOf make between actions later new × (runs ≡ first ++ later)

-- ---- the sum
-- what is counted afterwards: of each address what was before, and the sum over the passages of all runs, from the first
-- one on at which a program reached the address
pub record CountsAll (make : DisplayMaker) (old : LookState) (actions : List LookAction) (new : LookState)
    (before : List Tally) : Type 0 where
  pub runs : List CountedRun
  pub are : AreRunsOf make old actions runs new
  pub after : List Tally
  pub is : new.covered ≡ Some after
  pub counts : (address : ℕ) → IsInRange before address
      → CountsThem (counted_at (length before) address runs) before after address

abbrev pub CoverAddsUp : Type 0
CoverAddsUp = (make : DisplayMaker) (old new : LookState) (actions : List LookAction) (text : List ℕ)
    (before : List Tally)
    → old.covered ≡ Some before → AllByRecursion (λ a. is_cover a ≡ false) actions
    → PerformsAll (LookPerforms make) old actions text new → CountsAll make old actions new before
