-- ADDRESS (Application Programmer's Reference Manual, SC33-0077, "Access to System Information").
--   ADDRESS CWA(pointer, out)
-- CWA gets the address of the common work area, which all tasks see. Reply: Performed.
use Rattle.std.specs.Prelude.{[], ◌∷◌}
use Rattle.cx_base.specs.declared.conditions.Condition.TheVariants.{Normal}
use Rattle.cx_base.specs.declared.options.OptionName.TheVariants.{Cwa}
use Rattle.cx_region_state.specs.declared.outputs.OutputValue.TheVariants.{Word}
use Rattle.cx_region_state.specs.declared.verdict.TaskChange.TheVariants.{Nothing}
use Rattle.cx_region_state.specs.declared.verdict.Verdict.{Verdict}
use Rattle.cx_region_state.specs.declared.verdict.Verdict.TheVariants.{Meets}
use Rattle.cx_region_commands.specs.Common.{output}

unfoldable pub address_row : Verdict
address_row = Meets Normal (output Cwa (Word 0x001000) ∷ []) Nothing
