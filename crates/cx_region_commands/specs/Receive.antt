-- RECEIVE (Application Programmer's Reference Manual, SC33-0077, "Terminal Control").
--   RECEIVE INTO(bytes, out) LENGTH(halfword, in and out)
-- Without held input the command waits. Else INTO gets the input, at most as many bytes as LENGTH says (none where it
-- is negative), LENGTH its length, EIBAID its key, and the input is gone. LENGERR: the input is longer. Reply:
-- Performed.
use Rattle.std.specs.Prelude.{ℕ, [], ◌∷◌, length, nat_le, Option, Some, None, if◌then◌else◌}
use Rattle.cx_base.specs.declared.conditions.Condition.TheVariants.{Normal, Lengerr}
use Rattle.cx_base.specs.declared.options.OptionName.TheVariants.{Into, Length}
use Rattle.cx_region_state.specs.declared.outputs.OutputValue.TheVariants.{Text, Half}
use Rattle.cx_region_state.specs.State.{Input}
use Rattle.cx_region_state.specs.declared.verdict.TaskChange.TheVariants.{After}
use Rattle.cx_region_state.specs.declared.verdict.AfterOutputs.TheVariants.{TakesInput}
use Rattle.cx_region_state.specs.declared.verdict.Verdict.{Verdict}
use Rattle.cx_region_state.specs.declared.verdict.Verdict.TheVariants.{Meets, Waits}
use Rattle.cx_region_commands.specs.Common.{output}

unfoldable pub receive_row : Option Input → ℕ → Verdict
receive_row None room = Waits
receive_row (Some input) room =
    Meets (if nat_le (length input.bytes) room then Normal else Lengerr)
    (output Into (Text room) ∷ output Length (Half (length input.bytes)) ∷ []) (After TakesInput)
