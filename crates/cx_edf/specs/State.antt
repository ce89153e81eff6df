-- A region under EDF (own).
use Rattle.std.specs.Prelude.{ℕ, Bool, false, ◌&&◌, List, Option, is_some}
use Rattle.std.specs.Option.{option_map_or}
use Rattle.cx_ebcdic.specs.declared.aids.Aid.{Aid}
use Rattle.cx_ebcdic.specs.declared.aids.Aid.TheVariants.{Pf12}
use Rattle.cx_region.specs.State.{RegionState}
use Rattle.cx_region.specs.Tables.{task_of}
use Rattle.cx_edf.specs.Sessions.{SessionState, Sessions, is_stopped, session_in}

pub record EdfState : Type 0 where
  pub region : RegionState
  pub sessions : Sessions

-- the session of a terminal
abbrev pub session_at : EdfState → List ℕ → Option SessionState
session_at state name = session_in state.sessions name

-- a terminal is in Stopped
abbrev pub stopped_at : EdfState → List ℕ → Bool
stopped_at state name = option_map_or (λ session. is_stopped session.mode) (session_at state name) false

-- a terminal is in Stopped, and has a live task: its turns are held
abbrev pub holds : EdfState → List ℕ → Bool
holds state name = stopped_at state name && is_some (task_of state.region name)

-- a key ends the task of a terminal: PF12 in Stopped with a live task
abbrev pub ends_by_key : EdfState → List ℕ → Aid → Bool
ends_by_key state name Pf12 = holds state name
ends_by_key state name other = false
