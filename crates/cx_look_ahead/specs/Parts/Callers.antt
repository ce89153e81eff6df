-- The fields of a level that has called another, in the middle of a turn.
use Rattle.std.specs.Prelude.{ℕ, Option, List, []}
use Rattle.std.specs.Option.{option_map_or}
use Rattle.cx_load.specs.declared.program.Loaded.{Loaded}
use Rattle.cx_program.specs.declared.level.Level.{Level}
use Rattle.cx_storage.specs.Storage.{Storage}
use Rattle.cx_look_lines.specs.Words.{Lines}
use Rattle.cx_look_symbols.specs.Sources.{Sources}
use Rattle.cx_look_fields.specs.Fields.{calling}
use Rattle.cx_look_ahead.specs.After.{level_fields}

-- of one at an index, where there is one
abbrev pub caller_at : Sources → List (List ℕ × Loaded) → Storage → List ℕ → ℕ → Option Level → Lines
caller_at sources programs s name k level =
    option_map_or (λ it. level_fields sources s name k (calling programs it)) level []
