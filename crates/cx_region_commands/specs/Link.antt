-- LINK (Application Programmer's Reference Manual, SC33-0077, "Program Control").
--   LINK PROGRAM(name) [COMMAREA(address) LENGTH(halfword, in)]
-- LENGERR: LENGTH is negative. PGMIDERR: no such program. A 17th level abends XLVL; no place for DFHEISTG abends XSTG.
-- Else a level of the program begins; it finds the COMMAREA where the caller has it. Reply: Entered.
use Rattle.std.specs.Prelude.{◌≡◌, ℕ, List, length, nat_lt, Option, Some, None, MatchOption, MatchBool}
use Rattle.cx_base.specs.declared.abends.Abend.TheVariants as abend
use Rattle.cx_base.specs.declared.conditions.Condition.TheVariants.{Lengerr, Pgmiderr}
use Rattle.cx_storage.specs.Storage.{Storage}
use Rattle.cx_load.specs.declared.program.Loaded.{Loaded}
use Rattle.cx_program.specs.Levels.{Levels}
use Rattle.cx_region_state.specs.Call.{Call}
use Rattle.cx_region_state.specs.Inputs.{is_length_negative}
use Rattle.cx_region_state.specs.declared.inputs.StorageSpan.{StorageSpan}
use Rattle.cx_region_state.specs.declared.verdict.TaskChange.TheVariants.{Enters}
use Rattle.cx_region_state.specs.declared.verdict.Verdict.{Verdict}
use Rattle.cx_region_state.specs.declared.verdict.Verdict.TheVariants.{Refuses}
use Rattle.cx_region_commands.specs.declared.common.Called.{Called}
use Rattle.cx_region_commands.specs.Common.{AtPlace, commarea_of, does, named_program, new_level, condition_alone}

-- by the place of DFHEISTG
abbrev pub enters : Called → Option StorageSpan → Option ℕ → Verdict
enters called commarea None = Refuses abend.Xstg
enters called commarea (Some stg) = does (Enters (new_level called commarea stg))

-- a program that there is
unfoldable pub Links : Storage → Call → Levels → Called → Verdict → Type 0
Links storage call levels called verdict =
    MatchBool (nat_lt (length levels.callers) 15)
    (AtPlace storage called.loaded.stg_len (enters called (commarea_of storage call)) verdict)
    (verdict ≡ Refuses abend.Xlvl)

unfoldable pub LinkRow : Storage → List (List ℕ × Loaded) → Levels → Call → Verdict → Type 0
LinkRow storage programs levels call verdict =
    MatchBool (is_length_negative storage call)
    (verdict ≡ condition_alone Lengerr)
    (MatchOption (named_program storage call programs) (verdict ≡ condition_alone Pgmiderr)
    (λ called. Links storage call levels called verdict))
