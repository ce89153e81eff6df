-- A region under EDF that is looked at (own).
use Rattle.std.specs.Prelude.{Bool, false, Option, None, List, []}
use Rattle.cx_edf.specs.State.{EdfState}
use Rattle.cx_script_actions.specs.Effects.{fresh_state}
use Rattle.cx_look_abend.specs.Noting.{KeptAbends}
use Rattle.cx_look_ahead.specs.declared.rows.Row.{Row}
use Rattle.cx_exec.specs.declared.tallied.Tally.{Tally}
use Rattle.cx_look_symbols.specs.Sources.{Sources}

-- the region under EDF, each terminal's last abend, what is kept of sources, the ranges of bytes that are watched, how
-- often instructions were run since COVER ON, while it is on, and whether the last event was a turn that one more turn
-- takes on
pub record LookState : Type 0 where
  pub edf : EdfState
  pub abends : KeptAbends
  pub sources : Sources
  pub watched : List Row
  pub covered : Option (List Tally)
  pub goes_on : Bool

-- as a script begins it: no terminal is defined, and no program
abbrev pub fresh_look_state : LookState
fresh_look_state =
    record {
      edf = fresh_state;
      abends = [];
      sources = record { lines = []; places = [] };
      watched = [];
      covered = None;
      goes_on = false;
    }
