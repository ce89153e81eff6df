-- What AHEAD AT shows has to do with the turn that is then done.
use Rattle.std.specs.Prelude.{◌≡◌, ℕ, None, Option, MatchOption, List}
use Rattle.cx_exec.specs.Machine.{Machine}
use Rattle.cx_region_state.specs.declared.replies.TurnReply.{TurnReply}
use Rattle.cx_region.specs.State.{RegionState}
use Rattle.cx_region.specs.Turn.{TakesTurn}
use Rattle.cx_look_lines.specs.Words.{Lines}
use Rattle.cx_look_symbols.specs.Lines.{SourcePlaces}
use Rattle.cx_look_symbols.specs.Sources.{Sources}
use Rattle.cx_look_ahead.specs.Arrivals.{statements_on}
use Rattle.cx_look_ahead.specs.At.{ArrivesAt, AtText, IsAfter, first_among}
use Rattle.cx_look_turn.specs.NextTurn.{machine_ahead}
use Rattle.cx_look_turn.specs.Laws.{RunsThem}
use Rattle.cx_look_ahead.specs.declared.arrivals.SourceLine.{SourceLine}
use Rattle.cx_look_turn.specs.declared.traces.Visit.{Visit}

-- The turn runs these instructions; the machine is the one after as many of them as come before the first that is on
-- the line.
pub record ReachesThere (places : SourcePlaces) (region : RegionState) (name : List ℕ) (line : SourceLine) (m : Machine)
    (there : Option Machine) (reply : TurnReply) (new : RegionState) : Type 0 where
  pub visits : List Visit
  pub run : RunsThem region name visits reply new
  pub is : IsAfter m (first_among region.shared.programs line.program (statements_on places line) visits) there

-- None where the turn runs no instruction.
abbrev pub TurnsReachIt : Type 0
TurnsReachIt =
    (places : SourcePlaces) (region new : RegionState) (name : List ℕ) (line : SourceLine) (there : Option Machine)
    (reply : TurnReply)
    → ArrivesAt places region name line there → TakesTurn region name reply new
    → MatchOption (machine_ahead region name) (there ≡ None)
    (λ m. ReachesThere places region name line m there reply new)

-- there is one text
abbrev pub AtDecides : Type 0
AtDecides =
    (sources : Sources) (region : RegionState) (name : List ℕ) (line : SourceLine) (one other : Lines)
    → AtText sources region name line one → AtText sources region name line other → one ≡ other
