-- COVER: what is counted of a turn's instructions (own).
use Rattle.std.specs.Prelude.{◌≡◌, ℕ, Bool, if◌then◌else◌, Option, Some, None, List, [], ◌∷◌, codes}
use Rattle.cx_exec.specs.Machine.{Machine}
use Rattle.cx_exec.specs.Tallies.{IsTallied}
use Rattle.cx_exec.specs.declared.tallied.Tally.{Tally}
use Rattle.cx_region.specs.declared.replies.Event.TheVariants as event
use Rattle.cx_region_task.specs.Turn.{most_steps}
use Rattle.cx_edf.specs.State.{EdfState, holds}
use Rattle.cx_edf.specs.declared.answers.EdfEvent.{EdfEvent}
use Rattle.cx_edf.specs.declared.answers.EdfEvent.TheVariants as edf_event
use Rattle.cx_look_lines.specs.Words.{Lines, look_line}
use Rattle.cx_look_turn.specs.NextTurn.{machine_ahead}
use Rattle.cx_look_cover.specs.Tallies.{reaching}

-- COVER ON counts from nothing on, and COVER OFF drops the counts
abbrev pub covered_from : Bool → Option (List Tally)
covered_from on = if on then Some [] else None

abbrev pub cover_lines : Bool → Lines
cover_lines on = look_line (codes "COVER" ∷ (if on then codes "ON" else codes "OFF") ∷ [])

-- the machine whose instructions an event runs: that of a terminal's next turn, unless EDF holds the turn
abbrev pub machine_run : EdfState → EdfEvent → Option Machine
machine_run state (edf_event.Plain (event.Turn name)) =
    if holds state name then None else machine_ahead state.region name
machine_run state _ = None

-- what is counted after its run of the addresses below an end; where no instructions are run, what was before
abbrev pub IsTalliedBy : Option Machine → ℕ → List Tally → List Tally → Type 0
IsTalliedBy None end old new = new ≡ old
IsTalliedBy (Some m) end old new = IsTallied most_steps m (reaching old end) new

-- while COVER is on
unfoldable pub Covers : Option Machine → ℕ → Option (List Tally) → Option (List Tally) → Type 0
Covers m end None new = new ≡ None
Covers m end (Some old) new = (after : List Tally) × IsTalliedBy m end old after × (new ≡ Some after)
