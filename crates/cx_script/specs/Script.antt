-- What a script of a language asks: its actions in order, up to its first fault (own).
use Rattle.std.specs.Prelude.{ℕ, ◌+◌, ◌++◌, false, if◌then◌else◌, Option, Some, None, Result, Ok, Err, List, [], ◌∷◌}
use Rattle.std.specs.Option.{option_map_or, option_or}
use Rattle.std.specs.Result.{result_map_both}
use Rattle.cx_script_actions.specs.Language.{Language}
use Rattle.cx_script_blocks.specs.declared.faults.RunFault.{RunFault}
use Rattle.cx_script_blocks.specs.declared.faults.RunFault.TheVariants as fault
use Rattle.cx_script_io.specs.declared.input.Ending.{Ending}
use Rattle.cx_script_io.specs.declared.input.Ending.TheVariants.{AtEnd, Failed, PastBound}
use Rattle.cx_script_io.specs.Lines.{lines_met}
use Rattle.cx_script_blocks.specs.declared.blocks.Block.{Block}
use Rattle.cx_script_blocks.specs.declared.blocks.LineStep.{LineStep}
use Rattle.cx_script_blocks.specs.Blocks.{step_at}
use Rattle.cx_script.specs.declared.run.Place.{Place}

pub record Script (A : Type 0) : Type 0 where
  -- what is done, in order, in front of the fault
  pub actions : List A
  -- the fault that comes first, where there is one
  pub fault : Option RunFault

-- Where no line is left: if the script was read to its end, a block that is not ended is a fault of the line that
-- begins it, and where there is none, the first bad look is a fault. Else that no more was read is the fault.
abbrev pub end_fault : {H : Type 0} → Option (Block H) → Option ℕ → Option RunFault
end_fault (Some block) bad_look = Some (fault.BadLine block.line)
end_fault None (Some line) = Some (fault.BadLook line)
end_fault None None = None

unfoldable pub fault_at_ending : {H : Type 0} → Ending → Place H → Option RunFault
fault_at_ending AtEnd place = end_fault place.block place.bad_look
fault_at_ending Failed place = Some fault.Read
fault_at_ending PastBound place = Some fault.ReadBound

-- what a line leads to in a script: what is done, one action after another, and what is left to the next line
pub record Step (A H : Type 0) : Type 0 where
  pub actions : List A
  pub place : Place H

-- the actions that are asked, by the first of them
abbrev pub actions_of : {A H : Type 0} → Language A H → Option A → List A
actions_of language asked = option_map_or language.actions_of asked []

-- the first bad look, after a line with this number and this action
abbrev pub bad_look_after : {A H : Type 0} → Language A H → ℕ → Option ℕ → Option A → Option ℕ
bad_look_after language number before asked =
    option_or before (if option_map_or language.is_deferred_fault asked false then Some number else None)

abbrev pub stepped : {A H : Type 0} → Language A H → ℕ → Place H → LineStep A H → Step A H
stepped language number place step =
    record {
      actions = actions_of language step.action;
      place = record { block = step.block; bad_look = bad_look_after language number place.bad_look step.action };
    }

unfoldable pub step_from : {A H : Type 0} → Language A H → ℕ → Place H → List ℕ → Result (Step A H) RunFault
step_from language number place text =
    result_map_both (stepped language number place) (λ fault. fault) (step_at language number place.block text)

abbrev pub with_actions_first : {A : Type 0} → List A → Script A → Script A
with_actions_first asked script = record { actions = asked ++ script.actions; fault = script.fault }

-- a line's fault ends the script; after any other line come the next ones
abbrev pub led_to : {A H : Type 0} → Result (Step A H) RunFault → (Place H → Script A) → Script A
led_to (Err fault) next = record { actions = []; fault = Some fault }
led_to (Ok step) next = with_actions_first step.actions (next step.place)

-- the lines from the one with this number on, at this place
unfoldable pub script_from : {A H : Type 0} → Language A H → Ending → ℕ → Place H → List (List ℕ) → Script A
script_from language ending number place [] = record { actions = []; fault = fault_at_ending ending place }
script_from language ending number place (line ∷ lines) =
    led_to (step_from language number place line) (λ next. script_from language ending (number + 1) next lines)

-- in front of the first line there is no block, and no bad look
abbrev pub first_place : {H : Type 0} → Place H
first_place = record { block = None; bad_look = None }

-- the script that these bytes are in a language
unfoldable pub script_in : {A H : Type 0} → Language A H → Ending → List ℕ → Script A
script_in language ending bytes = script_from language ending 1 first_place (lines_met ending bytes)
