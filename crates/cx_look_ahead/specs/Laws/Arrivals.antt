-- Whether a turn comes to a line has to do with the turn that is then done.
use Rattle.std.specs.Prelude.{◌≡◌, ℕ, Bool, MatchOption, List}
use Rattle.cx_region_state.specs.declared.replies.TurnReply.{TurnReply}
use Rattle.cx_region.specs.State.{RegionState}
use Rattle.cx_region.specs.Tables.{task_of}
use Rattle.cx_region.specs.Turn.{TakesTurn}
use Rattle.cx_look_symbols.specs.Lines.{SourcePlaces}
use Rattle.cx_look_turn.specs.declared.traces.Visit.{Visit}
use Rattle.cx_look_ahead.specs.Arrivals.{ComesTo, are_among, is_command_among, statements_on}
use Rattle.cx_look_turn.specs.NextTurn.{machine_ahead}
use Rattle.cx_look_turn.specs.Laws.{RunsThem}
use Rattle.cx_look_ahead.specs.declared.arrivals.SourceLine.{SourceLine}

-- the turn runs these instructions, and whether one of them is on the line
pub record RunsSome (places : SourcePlaces) (region : RegionState) (name : List ℕ) (line : SourceLine) (does : Bool)
    (reply : TurnReply) (new : RegionState) : Type 0 where
  pub visits : List Visit
  pub run : RunsThem region name visits reply new
  pub is : does ≡ are_among region.shared.programs line.program (statements_on places line) visits

-- What a turn that is done does of a line: where it runs instructions, whether one of all these is on it; else whether
-- the command is that it performs.
abbrev pub DoesSome : SourcePlaces → RegionState → List ℕ → SourceLine → Bool → TurnReply → RegionState → Type 0
DoesSome places region name line does reply new =
    MatchOption (machine_ahead region name)
    (does ≡ is_command_among region.shared.programs line.program (statements_on places line) (task_of region name))
    (λ m. RunsSome places region name line does reply new)

-- it comes to a line exactly where the turn, when it is done, does something of it
abbrev pub TurnsDoSome : Type 0
TurnsDoSome =
    (places : SourcePlaces) (region new : RegionState) (name : List ℕ) (line : SourceLine) (comes : Bool)
    (reply : TurnReply)
    → ComesTo places region name line comes → TakesTurn region name reply new
    → DoesSome places region name line comes reply new

-- whether it does is a function of the state
abbrev pub ArrivalsDecide : Type 0
ArrivalsDecide =
    (places : SourcePlaces) (region : RegionState) (name : List ℕ) (line : SourceLine) (one other : Bool)
    → ComesTo places region name line one → ComesTo places region name line other → one ≡ other
