-- What holds of the rows of all commands.
use Rattle.std.specs.Prelude.{◌≡◌}
use Rattle.cx_region_state.specs.Call.{Call}
use Rattle.cx_region_state.specs.State.{TaskContext}
use Rattle.cx_region_state.specs.declared.verdict.Verdict.{Verdict}
use Rattle.cx_region_commands.specs.CommandVerdicts.{HasVerdict}

-- a call is judged in one way
abbrev pub JudgedOnce : Type 0
JudgedOnce =
    (call : Call) (r : TaskContext) (one other : Verdict) → HasVerdict call r one → HasVerdict call r other
    → one ≡ other
