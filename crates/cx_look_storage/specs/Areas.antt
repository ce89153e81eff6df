-- AREAS: all areas, or those of a terminal's task (own).
use Rattle.std.specs.Prelude.{ℕ, ◌==◌, Option, Some, None, List, [], ◌++◌, codes}
use Rattle.std.specs.List.{filter, flat_map}
use Rattle.cx_storage.specs.Storage.{Storage, areas_of}
use Rattle.cx_storage.specs.declared.areas.Area.{Area}
use Rattle.cx_base.specs.Texts.{shown_name}
use Rattle.cx_region.specs.State.{RegionState, TerminalState}
use Rattle.cx_region.specs.Tables.{terminal_of}
use Rattle.cx_look_lines.specs.Words.{or_none, Lines}
use Rattle.cx_look_storage.specs.Uses.{area_line}

-- all areas, the one at the lowest address first
unfoldable pub areas_text : RegionState → Lines
areas_text region = or_none (codes "AREAS") (flat_map (area_line region) (areas_of region.shared.storage))

-- those that a terminal's task owns
abbrev pub owned_by : Storage → Option TerminalState → List Area
owned_by s None = []
owned_by s (Some terminal) = filter (λ area. area.owner.slot == terminal.entry.slot) (areas_of s)

unfoldable pub task_areas_text : RegionState → List ℕ → Lines
task_areas_text region name =
    or_none (codes "AREAS " ++ shown_name name)
    (flat_map (area_line region) (owned_by region.shared.storage (terminal_of region name)))
