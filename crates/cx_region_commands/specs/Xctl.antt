-- XCTL (Application Programmer's Reference Manual, SC33-0077, "Program Control").
--   XCTL PROGRAM(name) [COMMAREA(bytes, in) LENGTH(halfword, in)]
-- LENGERR: LENGTH is negative. PGMIDERR: no such program. The COMMAREA's copy gets a place (none where it has no
-- bytes), and then the new DFHEISTG, with the copy and the old DFHEISTG still there: where either has none, abend XSTG.
-- Else the current level begins anew with that program. Reply: Entered.
use Rattle.std.specs.Prelude.{◌≡◌, ℕ, List, Option, Some, None, MatchOption, MatchBool}
use Rattle.std.specs.Option.{option_map}
use Rattle.cx_base.specs.declared.abends.Abend.TheVariants as abend
use Rattle.cx_base.specs.declared.conditions.Condition.TheVariants.{Lengerr, Pgmiderr}
use Rattle.cx_storage.specs.Storage.{Storage}
use Rattle.cx_load.specs.declared.program.Loaded.{Loaded}
use Rattle.cx_region_state.specs.Call.{Call}
use Rattle.cx_region_state.specs.Inputs.{is_length_negative}
use Rattle.cx_region_state.specs.declared.inputs.StorageSpan.{StorageSpan}
use Rattle.cx_region_state.specs.Areas.{IsTaskPlace, with_copy_area}
use Rattle.cx_region_state.specs.declared.verdict.TaskChange.TheVariants.{Replaces}
use Rattle.cx_region_state.specs.declared.verdict.Copying.{Copying}
use Rattle.cx_region_state.specs.declared.verdict.Verdict.{Verdict}
use Rattle.cx_region_state.specs.declared.verdict.Verdict.TheVariants.{Refuses}
use Rattle.cx_region_commands.specs.declared.common.Called.{Called}
use Rattle.cx_region_commands.specs.Common.{AtPlace, commarea_of, does, named_program, new_level, condition_alone}

-- by the place of DFHEISTG; the program finds the copy where it is
abbrev pub replaces : Called → Option Copying → Option ℕ → Verdict
replaces called copying None = Refuses abend.Xstg
replaces called copying (Some stg) =
    let copy : Option StorageSpan = option_map (λ copying. record { place = copying.to; len = copying.from.len })
    copying in
    does (Replaces copying (new_level called copy stg))

-- the place of the copy is found, or none is needed
abbrev pub Transfers : Storage → ℕ → Called → Option Copying → Verdict → Type 0
Transfers storage slot called copying verdict =
    AtPlace (with_copy_area storage slot copying) called.loaded.stg_len (replaces called copying) verdict

abbrev pub copying_to : StorageSpan → ℕ → Copying
copying_to piece place = record { from = piece; to = place }

-- a COMMAREA with bytes: the least place of its copy, and then DFHEISTG's
pub record Copies (storage : Storage) (slot : ℕ) (called : Called) (piece : StorageSpan) (verdict : Verdict)
    : Type 0 where
  pub place : Option ℕ
  pub least : IsTaskPlace storage piece.len place
  pub goes : MatchOption place (verdict ≡ Refuses abend.Xstg)
      (λ to. Transfers storage slot called (Some (copying_to piece to)) verdict)

-- a program that there is
unfoldable pub XctlTo : Storage → ℕ → Call → Called → Verdict → Type 0
XctlTo storage slot call called verdict =
    MatchOption (commarea_of storage call) (Transfers storage slot called None verdict)
    (λ piece. Copies storage slot called piece verdict)

unfoldable pub XctlRow : Storage → ℕ → List (List ℕ × Loaded) → Call → Verdict → Type 0
XctlRow storage slot programs call verdict =
    MatchBool (is_length_negative storage call)
    (verdict ≡ condition_alone Lengerr)
    (MatchOption (named_program storage call programs) (verdict ≡ condition_alone Pgmiderr)
    (λ called. XctlTo storage slot call called verdict))
