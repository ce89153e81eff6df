-- SEND TEXT (Application Programmer's Reference Manual, SC33-0077, "Basic Mapping Support").
--   SEND TEXT FROM(bytes, in) LENGTH(halfword, in) [ERASE] [FREEKB]
-- LENGERR: LENGTH is negative. Else the text's lines replace the screen's lines from the top; ERASE blanks the screen
-- first; FREEKB has no effect. Reply: Performed.
use Rattle.std.specs.Prelude.{if◌then◌else◌}
use Rattle.cx_base.specs.declared.conditions.Condition.TheVariants.{Lengerr}
use Rattle.cx_base.specs.declared.options.OptionName.TheVariants.{Erase, From}
use Rattle.cx_storage.specs.Storage.{Storage}
use Rattle.cx_region_state.specs.Call.{Call}
use Rattle.cx_region_state.specs.Inputs.{is_length_negative}
use Rattle.cx_region_state.specs.declared.verdict.TaskChange.TheVariants.{Before}
use Rattle.cx_region_state.specs.declared.verdict.BeforeOutputs.TheVariants.{Shows}
use Rattle.cx_region_state.specs.declared.verdict.Verdict.{Verdict}
use Rattle.cx_region_commands.specs.Common.{does, has, condition_alone, piece_at}

unfoldable pub send_text_row : Storage → Call → Verdict
send_text_row storage call =
    if is_length_negative storage call then condition_alone Lengerr
    else does (Before (Shows (piece_at storage call From) (has call Erase)))
