-- Which terminals are shown as stopped.
use Rattle.std.specs.Prelude.{◌≡◌, ◌↔◌, ℕ, true, List, ◌++◌, codes}
use Rattle.cx_edf.specs.State.{EdfState, session_at, stopped_at}
use Rattle.cx_look_tables.specs.Terminals.{edf_word}

-- EDF's word begins with STOPPED, as no other does, exactly where the terminal is stopped: where it has a task its
-- turns are held.
pub record IsShownAsStopped (word : List ℕ) : Type 0 where
  pub stops : List ℕ
  pub begins : word ≡ codes "STOPPED" ++ stops

abbrev pub StoppedTerminalsAreShown : Type 0
StoppedTerminalsAreShown = (state : EdfState) (name : List ℕ)
    → (stopped_at state name ≡ true) ↔ IsShownAsStopped (edf_word (session_at state name))
