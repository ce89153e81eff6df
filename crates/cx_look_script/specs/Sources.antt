-- When a source's lines are kept (own).
use Rattle.std.specs.Prelude.{ℕ, Bool, ◌&&◌, not, is_some, if◌then◌else◌, Option, List, []}
use Rattle.std.specs.Option.{option_map_or}
use Rattle.cx_region.specs.State.{RegionState}
use Rattle.cx_region.specs.Tables.{program_of}
use Rattle.cx_look_fields.specs.FieldTexts.{level_program}
use Rattle.cx_look_symbols.specs.Sources.{source_lines, with_source_lines}
use Rattle.cx_look_script.specs.State.{LookState}

-- whether a program was defined: the region had none of this name, and has one
abbrev pub is_program_defined : RegionState → List ℕ → RegionState → Bool
is_program_defined old name new = not (is_some (program_of old name)) && is_some (program_of new name)

-- what is kept after a source's end: its lines, where it defined the program
abbrev pub with_source : LookState → List ℕ → List (List ℕ) → LookState → LookState
with_source old name lines new =
    record new {
      sources = if is_program_defined old.edf.region name new.edf.region then with_source_lines new.sources name lines
          else new.sources;
    }

-- the lines of the source of a level's program
abbrev pub level_lines : LookState → List ℕ → Option ℕ → List (List ℕ)
level_lines state term k = option_map_or (source_lines state.sources) (level_program state.edf.region term k) []
