-- Whether a terminal's next turn does something of a line of a program's source (own).
use Rattle.std.specs.Prelude.{◌≡◌, ℕ, ◌==◌, ◌&&◌, Bool, false, Option, Some, None, unwrap_or, List, [], filter, slice_index}
use Rattle.std.specs.List.{list_any}
use Rattle.std.specs.Map.{lookup}
use Rattle.std.specs.Option.{option_map_or}
use Rattle.cx_ebcdic.specs.Names.{is_name}
use Rattle.cx_storage.specs.Address.{address_in}
use Rattle.cx_load.specs.declared.program.Loaded.{Loaded}
use Rattle.cx_region_state.specs.State.{TaskState}
use Rattle.cx_region_task.specs.Turn.{most_steps}
use Rattle.cx_region.specs.State.{RegionState}
use Rattle.cx_region.specs.Tables.{task_of}
use Rattle.cx_look_symbols.specs.Lines.{SourcePlaces, has_offset}
use Rattle.cx_look_symbols.specs.Places.{spot_before, spot_of}
use Rattle.cx_look_symbols.specs.declared.places.Spot.{Spot}
use Rattle.cx_look_symbols.specs.declared.statements.StatementPlace.{StatementPlace}
use Rattle.cx_look_turn.specs.declared.traces.Trace.{Trace}
use Rattle.cx_look_turn.specs.declared.traces.Visit.{Visit}
use Rattle.cx_look_turn.specs.NextTurn.{IsAhead}
use Rattle.cx_look_ahead.specs.declared.arrivals.SourceLine.{SourceLine}

-- ---- the statements on a line
-- those of a program that have bytes; none where no source defined it
abbrev pub program_places : SourcePlaces → List ℕ → List StatementPlace
program_places places program = unwrap_or (lookup (is_name program) places) []

-- those on a line: of an EXEC's the ones that are made from it
abbrev pub statements_on : SourcePlaces → SourceLine → List StatementPlace
statements_on places line = filter (λ it. it.line == line.line) (program_places places line.program)

abbrev pub has_statement : SourcePlaces → SourceLine → Bool
has_statement places line = list_any (λ it. it.line == line.line) (program_places places line.program)

-- whether one of some statements of a program has a byte
abbrev pub is_among_statements : List ℕ → List StatementPlace → Option Spot → Bool
is_among_statements program statements spot =
    option_map_or (λ it. is_name it.program program && list_any (has_offset it.offset) statements) spot false

-- ---- what a turn does of them
-- one of the instructions is in them
abbrev pub are_among : List (List ℕ × Loaded) → List ℕ → List StatementPlace → List Visit → Bool
are_among programs program statements visits =
    list_any (λ it. is_among_statements program statements (spot_of programs it.at)) visits

-- a task's command is, by the byte before the address in register 14: that is the last one of its EXEC
abbrev pub is_command_among : List (List ℕ × Loaded) → List ℕ → List StatementPlace → Option TaskState → Bool
is_command_among programs program statements task =
    option_map_or
    (λ it. is_among_statements program statements (spot_before programs (address_in (slice_index it.regs 14)))) task
    false

-- it runs these instructions, or else performs the command that is due
abbrev pub does_some : List (List ℕ × Loaded) → List ℕ → List StatementPlace → Option TaskState → Option Trace → Bool
does_some programs program statements task (Some trace) = are_among programs program statements trace.last.items
does_some programs program statements task None = is_command_among programs program statements task

-- whether the next turn would do something of a line: it would run an instruction of it, or perform its command
pub record ComesTo (places : SourcePlaces) (region : RegionState) (name : List ℕ) (line : SourceLine) (comes : Bool)
    : Type 0 where
  pub trace : Option Trace
  pub ahead : IsAhead region name most_steps trace
  pub is : comes ≡ does_some region.shared.programs line.program (statements_on places line) (task_of region name) trace
