-- What a walk over the areas has left; what an area is, by what is found there.
use Rattle.std.specs.Prelude.{ℕ, Bool, ◌==◌, ◌++◌, nat_le, if◌then◌else◌, Option, List, [], ◌∷◌, codes}
use Rattle.std.specs.Fmt.{decimal}
use Rattle.std.specs.List.{find}
use Rattle.std.specs.Option.{option_map_or}
use Rattle.cx_base.specs.Texts.{shown_name}
use Rattle.cx_load.specs.declared.program.Loaded.{Loaded}
use Rattle.cx_program.specs.Levels.{Levels, all_levels}
use Rattle.cx_storage.specs.Storage.{Storage}
use Rattle.cx_storage.specs.declared.areas.Area.{Area}
use Rattle.cx_look_storage.specs.Uses.{stg_from}

-- the areas that start at an address or above
abbrev pub areas_from : Storage → ℕ → List Area
areas_from [] from = []
areas_from (h ∷ hs) from = if nat_le from h.area.start then h.area ∷ areas_from hs from else areas_from hs from

abbrev pub is_of : ℕ → Area → Bool
is_of slot area = area.owner.slot == slot

-- the program that starts at an address
abbrev pub program_at : List (List ℕ × Loaded) → ℕ → Option (List ℕ × Loaded)
program_at programs start = find (λ program. program.1.at == start) programs

abbrev pub fixed_use : Option (List ℕ × Loaded) → List ℕ
fixed_use program = option_map_or (λ it. codes "PROGRAM " ++ shown_name it.0) program (codes "CWA")

abbrev pub stg_at : Levels → ℕ → Option ℕ
stg_at levels start = stg_from 1 (all_levels levels) start

abbrev pub stg_use : Option ℕ → List ℕ
stg_use level = option_map_or (λ n. codes "DFHEISTG " ++ decimal n) level (codes "OTHER")
