-- What a step and a run leave of storage's areas: all of them, as they were. An instruction changes bytes alone.
use Rattle.std.proofs.Common.{ℕ, zero, suc, Result, Ok, Err, ◌∙◌, ap, MatchResult}
use Rattle.cx_storage.specs.Storage.{areas_of}
use Rattle.cx_exec.specs.declared.machine.Interruption.{Interruption}
use Rattle.cx_exec.specs.declared.machine.Step.{Step}
use Rattle.cx_exec.specs.declared.machine.Step.TheVariants.{Done, AtEntry, Interrupt}
use Rattle.cx_exec.specs.declared.machine.Halt.{Halt}
use Rattle.cx_exec.specs.declared.machine.Halt.TheVariants as halt
use Rattle.cx_exec.specs.declared.stepping.PendingInstruction.{PendingInstruction}
use Rattle.cx_exec.specs.Machine.{Machine}
use Rattle.cx_exec.specs.Outcome.{Outcome, IsSuppressed}
use Rattle.cx_exec.specs.Rows.{Effect}
use Rattle.cx_exec.specs.Step.{instruction_to_perform, Runs, Steps}
use Rattle.cx_exec.specs.Advance.{Passes, Advances}
use Rattle.cx_exec_laws.specs.Laws.Areas.{SameAreas}
use Rattle.cx_exec_laws.specs.Facts.Rows.{effect}

runs_keeps : (m : Machine) (outcome : Outcome) (after : Machine) → Runs m outcome after → SameAreas m after
unfolding Runs
runs_keeps m outcome after h = go (instruction_to_perform m) h
  where
    go : (r : Result PendingInstruction Interruption) → MatchResult r (λ d. Effect d.inst d.updated m outcome after) (λ cause. IsSuppressed cause m outcome after) → SameAreas m after
    go (Ok d) h = (effect d.inst d.updated m).keeps outcome after h
    go (Err cause) h = ap (λ (x : Machine). areas_of x.storage) h.1

-- a step leaves the areas
steps_keep_areas : (m : Machine) (step : Step) (after : Machine) → Steps m step after → SameAreas m after
unfolding Steps
steps_keep_areas m AtEntry after h = ap (λ (x : Machine). areas_of x.storage) h.1
steps_keep_areas m Done after h = runs_keeps m _ after h.1
steps_keep_areas m (Interrupt cause) after h = runs_keeps m _ after h.1

passes_keep_areas : (n : ℕ) (m after : Machine) → Passes n m after → SameAreas m after
unfolding Passes
passes_keep_areas zero m after h = ap (λ (x : Machine). areas_of x.storage) h
passes_keep_areas (suc n) m after h = passes_keep_areas n h.0 after h.2 ∙ steps_keep_areas m Done h.0 h.1

-- a run leaves the areas
pub runs_keep_areas : (limit : ℕ) (m : Machine) (end : Halt) (after : Machine) → Advances limit m end after → SameAreas m after
unfolding Advances
runs_keep_areas limit m halt.AtEntry after (n, small, run, e) = passes_keep_areas n m after run
runs_keep_areas limit m (halt.Interrupt cause place) after (n, small, before, run, last, e) =
    steps_keep_areas before _ after last ∙ passes_keep_areas n m before run
runs_keep_areas limit m halt.Limit after h = passes_keep_areas limit m after h.0
