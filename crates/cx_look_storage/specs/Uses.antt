-- What an area is, by the region's tables, and whose it is (own).
use Rattle.std.specs.Prelude.{ℕ, ◌+◌, ◌-◌, Bool, ◌||◌, nat_lt, ◌==◌, if◌then◌else◌, Option, Some, None, List, [], ◌∷◌, ◌++◌, codes}
use Rattle.std.specs.Fmt.{decimal}
use Rattle.std.specs.List.{find}
use Rattle.std.specs.Option.{option_and_then, option_map_or}
use Rattle.cx_base.specs.Digits.{digits}
use Rattle.cx_base.specs.Texts.{shown_name}
use Rattle.cx_storage.specs.Address.{distance}
use Rattle.cx_storage.specs.Storage.{covers}
use Rattle.cx_storage.specs.declared.areas.Area.{Area}
use Rattle.cx_storage.specs.declared.areas.Kind.{Kind}
use Rattle.cx_storage.specs.declared.areas.Kind.TheVariants as kind
use Rattle.cx_load.specs.declared.program.Loaded.{Loaded}
use Rattle.cx_program.specs.declared.level.Level.{Level}
use Rattle.cx_program.specs.Levels.{all_levels}
use Rattle.cx_region_state.specs.State.{TaskState}
use Rattle.cx_region.specs.State.{RegionState, TerminalState}
use Rattle.cx_region.specs.Looking.{terminal_at}
use Rattle.cx_look_lines.specs.Words.{look_line, Lines}

-- ---- what
-- the number of the level whose DFHEISTG starts there, of levels from this number on; the highest level is number 1
abbrev pub stg_from : ℕ → List Level → ℕ → Option ℕ
stg_from n [] start = None
stg_from n (level ∷ levels) start = if level.stg == start then Some n else stg_from (n + 1) levels start

-- an area that a task was given unasked: its EIB, a level's DFHEISTG, or any other, the copy of a COMMAREA
abbrev pub task_use : ℕ → Option TaskState → List ℕ
task_use start None = codes "OTHER"
task_use start (Some task) =
    if task.eib == start then codes "EIB"
    else option_map_or (λ n. codes "DFHEISTG " ++ decimal n) (stg_from 1 (all_levels task.levels) start) (codes "OTHER")

-- a fixed area is a program that starts there, or the common work area
unfoldable pub use_of : Kind → List (List ℕ × Loaded) → Option TaskState → ℕ → List ℕ
use_of kind.Fixed programs task start =
    option_map_or (λ program. codes "PROGRAM " ++ shown_name program.0)
    (find (λ program. program.1.at == start) programs) (codes "CWA")
use_of kind.Got programs task start = codes "GETMAIN"
use_of kind.System programs task start = task_use start task

-- ---- of a region
-- the terminal whose task owns an area, where it isn't the region's
abbrev pub owner_of : RegionState → Area → Option (List ℕ × TerminalState)
owner_of region area = terminal_at region.terminals area.owner.slot

unfoldable pub area_owner : RegionState → Area → List ℕ
area_owner region area = option_map_or (λ terminal. shown_name terminal.0) (owner_of region area) (codes "REGION")

unfoldable pub area_use : RegionState → Area → List ℕ
area_use region area =
    use_of area.owner.kind region.shared.programs (option_and_then (λ t. t.1.task) (owner_of region area)) area.start

-- ---- the line of an area
unfoldable pub area_line : RegionState → Area → Lines
area_line region area =
    look_line (codes "AREA" ∷ digits 16 6 area.start ∷ codes "LENGTH" ∷ digits 16 6 area.len ∷ area_use region area
    ∷ codes "OWNER" ∷ area_owner region area ∷ [])

-- ---- the line of an area that has one of some bytes from an address on
-- it has the first of them, or starts at one of them
abbrev pub is_met : ℕ → ℕ → Area → Bool
is_met address n area = covers area address || nat_lt (distance address area.start) n

-- the offset in it of the first of them that it has
abbrev pub offset_of : ℕ → Area → ℕ
offset_of address area = if covers area address then address - area.start else 0

unfoldable pub met_line : RegionState → ℕ → Area → Lines
met_line region address area =
    look_line (codes "AREA" ∷ digits 16 6 area.start ∷ codes "LENGTH" ∷ digits 16 6 area.len
    ∷ codes "OFFSET" ∷ digits 16 6 (offset_of address area) ∷ area_use region area ∷ codes "OWNER"
    ∷ area_owner region area ∷ [])
