-- ABEND (Application Programmer's Reference Manual, SC33-0077, "Abnormal Termination Recovery").
--   ABEND [ABCODE(name)] [CANCEL] [NODUMP]
-- Effect: the task abends with the code ABCODE, or ???? without it; with CANCEL no exit takes it; NODUMP has no effect.
-- Reply: TookExit or Abended.
use Rattle.std.specs.Prelude.{unwrap_or}
use Rattle.cx_base.specs.Abends.{abend_code}
use Rattle.cx_base.specs.declared.abends.Abend.TheVariants.{Unnamed}
use Rattle.cx_base.specs.declared.options.OptionName.TheVariants.{Abcode, Cancel}
use Rattle.cx_storage.specs.Storage.{Storage}
use Rattle.cx_region_state.specs.Call.{Call}
use Rattle.cx_region_state.specs.Inputs.{bytes_of}
use Rattle.cx_region_state.specs.declared.verdict.TaskChange.TheVariants.{AbendsWith}
use Rattle.cx_region_state.specs.declared.verdict.Verdict.{Verdict}
use Rattle.cx_region_commands.specs.Common.{does, has}

unfoldable pub abend_row : Storage → Call → Verdict
abend_row storage call =
    does (AbendsWith (unwrap_or (bytes_of storage call Abcode 4) (abend_code Unnamed)) (has call Cancel))
