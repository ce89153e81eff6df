-- FREEMAIN (Application Programmer's Reference Manual, SC33-0077, "Storage Control").
--   FREEMAIN DATA(address)
-- INVREQ: no area that this task got, by GETMAIN or READQ TS SET, starts there. Else the area is freed. Reply:
-- Performed.
use Rattle.std.specs.Prelude.{ℕ, Bool, true, false, ◌&&◌, ◌==◌, if◌then◌else◌}
use Rattle.std.specs.Option.{option_map_or}
use Rattle.cx_base.specs.declared.conditions.Condition.TheVariants.{Invreq}
use Rattle.cx_base.specs.declared.options.OptionName.TheVariants.{Data}
use Rattle.cx_storage.specs.declared.areas.Area.{Area}
use Rattle.cx_storage.specs.declared.areas.Kind.{Kind}
use Rattle.cx_storage.specs.declared.areas.Kind.TheVariants.{Got}
use Rattle.cx_storage.specs.Storage.{Storage, area_at}
use Rattle.cx_region_state.specs.Call.{Call}
use Rattle.cx_region_state.specs.declared.verdict.TaskChange.TheVariants.{After}
use Rattle.cx_region_state.specs.declared.verdict.AfterOutputs.TheVariants.{Frees}
use Rattle.cx_region_state.specs.declared.verdict.Verdict.{Verdict}
use Rattle.cx_region_commands.specs.Common.{does, condition_alone, place_at}

abbrev pub is_got : Kind → Bool
is_got Got = true
is_got _ = false

-- an area that the task of this slot got
abbrev pub is_got_by : ℕ → Area → Bool
is_got_by slot area = (area.owner.slot == slot) && is_got area.owner.kind

unfoldable pub freemain_row : Storage → ℕ → Call → Verdict
freemain_row storage slot call =
    let place = place_at call Data in
    if option_map_or (is_got_by slot) (area_at storage place) false then does (After (Frees place))
    else condition_alone Invreq
