-- AHEAD AT: what a terminal's task has where its next turn first comes to a line of a program's source (own).
use Rattle.std.specs.Prelude.{◌≡◌, ℕ, ◌==◌, Option, Some, None, IsSomeAnd, List, [], ◌∷◌, ◌++◌, codes, map, position}
use Rattle.std.specs.List.{filter}
use Rattle.std.specs.Option.{option_map_or}
use Rattle.cx_base.specs.Digits.{digits}
use Rattle.cx_base.specs.Texts.{shown_name}
use Rattle.cx_exec.specs.Advance.{Passes}
use Rattle.cx_exec.specs.Machine.{Machine}
use Rattle.cx_load.specs.declared.program.Loaded.{Loaded}
use Rattle.cx_region_task.specs.Turn.{most_steps}
use Rattle.cx_region.specs.State.{RegionState}
use Rattle.cx_source.specs.declared.source.Source.{Source}
use Rattle.cx_look_lines.specs.Registers.{register_lines}
use Rattle.cx_look_lines.specs.Words.{Lines, look_line}
use Rattle.cx_look_symbols.specs.Lines.{SourcePlaces}
use Rattle.cx_look_symbols.specs.Places.{spot_of}
use Rattle.cx_look_symbols.specs.Sources.{Sources, source_lines}
use Rattle.cx_look_symbols.specs.Placed.{placed_in}
use Rattle.cx_look_symbols.specs.declared.places.Spot.{Spot}
use Rattle.cx_look_symbols.specs.declared.statements.StatementPlace.{StatementPlace}
use Rattle.cx_look_xref.specs.References.{references_of}
use Rattle.cx_look_fields.specs.Fields.{fields_in}
use Rattle.cx_look_fields.specs.FieldTexts.{fields_lines}
use Rattle.cx_look_ahead.specs.Arrivals.{is_among_statements, statements_on}
use Rattle.cx_look_ahead.specs.Instructions.{visit_line}
use Rattle.cx_look_turn.specs.NextTurn.{IsAhead, machine_ahead}
use Rattle.cx_look_turn.specs.Traces.{visit}
use Rattle.cx_look_ahead.specs.declared.arrivals.SourceLine.{SourceLine}
use Rattle.cx_look_turn.specs.declared.traces.Trace.{Trace}
use Rattle.cx_look_turn.specs.declared.traces.Visit.{Visit}

-- ---- where the turn first comes to the line
-- the number of the first instruction that is in some statements: how many are done before it
abbrev pub first_among : List (List ℕ × Loaded) → List ℕ → List StatementPlace → List Visit → Option ℕ
first_among programs program statements visits =
    position (λ it. is_among_statements program statements (spot_of programs it.at)) visits

-- the machine after so many
abbrev pub IsAfter : Machine → Option ℕ → Option Machine → Type 0
IsAfter m None there = there ≡ None
IsAfter m (Some n) there = IsSomeAnd there (Passes n m)

abbrev pub FirstOf :
    List (List ℕ × Loaded) → List ℕ → List StatementPlace → Option Trace → Option Machine → Option Machine → Type 0
FirstOf programs program statements (Some trace) (Some m) there =
    IsAfter m (first_among programs program statements trace.last.items) there
FirstOf programs program statements _ _ there = there ≡ None

-- None where the turn runs no instruction of the line
pub record ArrivesAt (places : SourcePlaces) (region : RegionState) (name : List ℕ) (line : SourceLine)
    (there : Option Machine) : Type 0 where
  pub trace : Option Trace
  pub ahead : IsAhead region name most_steps trace
  pub is : FirstOf region.shared.programs line.program (statements_on places line) trace (machine_ahead region name)
      there

-- ---- what is written: the condition code, the instruction, the registers, and the fields that the line names
abbrev pub at_line : List ℕ → SourceLine → List ℕ → Lines
at_line name line word =
    look_line (codes "AHEAD" ∷ shown_name name ∷ codes "AT" ∷ shown_name line.program ∷ codes "LINE"
    ∷ digits 10 5 line.line ∷ word ∷ [])

abbrev pub names_on : ℕ → Source → List (List ℕ)
names_on line source = map (λ r. r.name) (filter (λ r. r.line == line) (references_of source))

abbrev pub fields_on : Machine → List ℕ → SourceLine → ℕ → Source → Lines
fields_on m name line offset source =
    option_map_or (fields_lines (Some (names_on line.line source)) m.storage name) (fields_in m.regs offset source) []

abbrev pub fields_at_line : Sources → Machine → List ℕ → SourceLine → Spot → Lines
fields_at_line sources m name line spot =
    option_map_or (fields_on m name line spot.offset) (placed_in (source_lines sources line.program)) []

unfoldable pub there_lines : Sources → List (List ℕ × Loaded) → List ℕ → SourceLine → Machine → Lines
there_lines sources programs name line m =
    at_line name line (codes "CC " ++ digits 10 1 m.cc) ++ visit_line sources programs (visit m)
    ++ register_lines m.regs ++ option_map_or (fields_at_line sources m name line) (spot_of programs m.next) []

pub record AtText (sources : Sources) (region : RegionState) (name : List ℕ) (line : SourceLine) (lines : Lines)
    : Type 0 where
  pub there : Option Machine
  pub arrives : ArrivesAt sources.places region name line there
  pub is : lines
      ≡ option_map_or (there_lines sources region.shared.programs name line) there (at_line name line (codes "NONE"))
