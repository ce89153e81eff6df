-- A level that has called another, where there is one.
use Rattle.std.specs.Prelude.{List, [], ◌∷◌, Option}
use Rattle.std.specs.Option.{option_map_or}
use Rattle.cx_program.specs.declared.level.Level.{Level}
use Rattle.cx_look_abend.specs.Abends.{caller_of}
use Rattle.cx_look_abend.specs.declared.abends.Caller.{Caller}

abbrev pub caller_at : Option Level → List Caller
caller_at level = option_map_or (λ it. caller_of it ∷ []) level []
