-- HANDLE ABEND (Application Programmer's Reference Manual, SC33-0077, "Abnormal Termination Recovery").
--   HANDLE ABEND {LABEL(address) | CANCEL | RESET}
-- Effect on the current level's exit: LABEL sets it and turns it on, CANCEL turns it off, RESET turns it on again.
-- Without one CANCEL and RESET have no effect. Reply: Performed.
use Rattle.std.specs.Prelude.{if◌then◌else◌}
use Rattle.std.specs.Option.{option_map_or}
use Rattle.cx_base.specs.declared.options.OptionName.TheVariants.{Cancel, Label}
use Rattle.cx_region_state.specs.Call.{Call, place_of}
use Rattle.cx_region_state.specs.declared.verdict.Request.TheVariants.{SetExit, ExitOff, ExitOn}
use Rattle.cx_region_state.specs.declared.verdict.Verdict.{Verdict}
use Rattle.cx_region_commands.specs.Common.{has}
use Rattle.cx_region_commands.specs.Handling.{asks}

unfoldable pub handle_abend_row : Call → Verdict
handle_abend_row call = asks (option_map_or SetExit (place_of call Label) (if has call Cancel then ExitOff else ExitOn))
