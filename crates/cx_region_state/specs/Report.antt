-- What a command reports when it is performed (Application Programmer's Reference Manual, SC33-0077, "EXEC Interface
-- Block" and "Exceptional Conditions"): in the EIB, and then in RESP's word.
use Rattle.std.specs.Prelude.{ℕ, List, [], ◌∷◌, Option, Some, None}
use Rattle.std.specs.Option.{option_map, option_or}
use Rattle.std.specs.Int.{w16, w32, to_be_bytes}
use Rattle.cx_base.specs.declared.options.OptionName.TheVariants.{Program, Queue}
use Rattle.cx_base.specs.declared.eib.EibField.{EibField}
use Rattle.cx_base.specs.declared.eib.EibField.TheVariants.{Aid, Fn, Rcode, Resp, Rsrce}
use Rattle.cx_storage.specs.Storage.{Storage}
use Rattle.cx_region_state.specs.Call.{Call, resp_place}
use Rattle.cx_region_state.specs.Eib.{content, with_calen, with_field, with_fields}
use Rattle.cx_region_state.specs.Inputs.{bytes_of}
use Rattle.cx_region_state.specs.Outputs.{with_output}
use Rattle.cx_region_state.specs.declared.report.CommandReport.{CommandReport}

-- the resource that EIBRSRCE names: the program or the queue, of the commands that have one
unfoldable pub resource_of : Storage → Call → Option (List ℕ)
resource_of s call = option_or (bytes_of s call Program 8) (bytes_of s call Queue 8)

-- a field that is written only where the command sets it
unfoldable pub with_set : Storage → ℕ → EibField → Option (List ℕ) → Storage
with_set s eib field None = s
with_set s eib field (Some bytes) = with_field s eib (content field bytes)

-- The EIB at an address. Every command writes EIBFN; EIBRCODE, with the condition's number in its first byte, and
-- zeros; and EIBRESP. EIBRSRCE, EIBAID and EIBCALEN are written where the command sets them.
unfoldable pub with_eib : Storage → ℕ → CommandReport → Storage
with_eib s eib answer =
    let fields = content Fn (to_be_bytes w16 answer.function)
    ∷ content Rcode (answer.condition ∷ 0 ∷ 0 ∷ 0 ∷ 0 ∷ 0 ∷ []) ∷ content Resp (to_be_bytes w32 answer.condition)
    ∷ [] in
    let named = with_set (with_fields s eib fields) eib Rsrce answer.resource in
    with_calen (with_set named eib Aid (option_map (λ byte. byte ∷ []) answer.aid)) eib answer.calen

-- Storage after a command's report: the condition's number goes into RESP's word, where RESP is there, last and over
-- whatever is there.
unfoldable pub with_report : Storage → ℕ → Call → CommandReport → Storage
with_report s eib call answer = with_output (with_eib s eib answer) (resp_place call) (to_be_bytes w32 answer.condition)
