-- GETMAIN (Application Programmer's Reference Manual, SC33-0077, "Storage Control").
--   GETMAIN SET(pointer, out) LENGTH(halfword without a sign, in) [INITIMG(byte, in)] [NOSUSPEND]
-- LENGERR: LENGTH is 0 or above 65,520. NOSTG: task storage has no place. Else the task gets an area at the least
-- place, each byte INITIMG or zero; SET gets its address. Reply: Performed.
use Rattle.std.specs.Prelude.{◌≡◌, ℕ, Bool, ◌&&◌, nat_le, [], ◌∷◌, Option, Some, None, unwrap_or, slice_index, MatchBool}
use Rattle.std.specs.Option.{option_map_or}
use Rattle.cx_base.specs.declared.conditions.Condition.TheVariants.{Normal, Lengerr, Nostg}
use Rattle.cx_base.specs.declared.options.OptionName.TheVariants.{Initimg, Length, Set}
use Rattle.cx_storage.specs.Storage.{Storage}
use Rattle.cx_region_state.specs.Call.{Call}
use Rattle.cx_region_state.specs.Inputs.{bytes_of, halfword_of}
use Rattle.cx_region_state.specs.declared.outputs.OutputValue.TheVariants.{Word}
use Rattle.cx_region_state.specs.declared.verdict.TaskChange.TheVariants.{Gets}
use Rattle.cx_region_state.specs.declared.verdict.Fill.TheVariants.{Byte}
use Rattle.cx_region_state.specs.declared.verdict.Verdict.{Verdict}
use Rattle.cx_region_state.specs.declared.verdict.Verdict.TheVariants.{Meets}
use Rattle.cx_region_commands.specs.Common.{AtPlace, condition_alone, output}

-- the lengths that an area may have
abbrev pub is_area_length : ℕ → Bool
is_area_length len = nat_le 1 len && nat_le len 65520

-- how many bytes LENGTH asks for
abbrev pub asked_len : Storage → Call → ℕ
asked_len storage call = unwrap_or (halfword_of storage call Length) 0

-- INITIMG's byte, or zero without it
unfoldable pub fill_byte : Storage → Call → ℕ
fill_byte storage call = option_map_or (λ bytes. slice_index bytes 0) (bytes_of storage call Initimg 1) 0

-- by the area's place
abbrev pub gets : ℕ → ℕ → Option ℕ → Verdict
gets len byte None = condition_alone Nostg
gets len byte (Some place) =
    Meets Normal (output Set (Word place) ∷ []) (Gets (record { place = place; len = len; fill = Byte byte }))

unfoldable pub GetmainRow : Storage → Call → Verdict → Type 0
GetmainRow storage call verdict =
    MatchBool (is_area_length (asked_len storage call))
    (AtPlace storage (asked_len storage call) (gets (asked_len storage call) (fill_byte storage call)) verdict)
    (verdict ≡ condition_alone Lengerr)
