-- ENQ (Application Programmer's Reference Manual, SC33-0077, "Task Control").
--   ENQ RESOURCE(bytes, in, or an address) [LENGTH(halfword, in)] [NOSUSPEND]
-- With LENGTH the resource is named by that many bytes, without it by the address itself. LENGERR: LENGTH is outside 1
-- to 255. ENQBUSY: another task owns the resource, or it would be a 257th. INVREQ: this task owns it 65,535 times. Else
-- it owns it once more. Reply: Performed.
use Rattle.std.specs.Prelude.{ℕ, Bool, ◌&&◌, not, Option, if◌then◌else◌, unwrap_or}
use Rattle.std.specs.Option.{option_map}
use Rattle.cx_base.specs.declared.conditions.Condition.TheVariants.{Lengerr}
use Rattle.cx_base.specs.declared.options.OptionName.TheVariants.{Length, Resource}
use Rattle.cx_storage.specs.Storage.{Storage}
use Rattle.cx_service.specs.declared.resources.ResourceName.{ResourceName}
use Rattle.cx_service.specs.declared.resources.ResourceName.TheVariants.{Bytes, Address}
use Rattle.cx_service.specs.ResourceNames.{is_name_length}
use Rattle.cx_service.specs.Resources.{Resources, enq_fault}
use Rattle.cx_region_state.specs.Call.{Call, place_of}
use Rattle.cx_region_state.specs.Inputs.{bytes_of, length_option}
use Rattle.cx_region_state.specs.declared.verdict.TaskChange.TheVariants.{Before}
use Rattle.cx_region_state.specs.declared.verdict.BeforeOutputs.TheVariants.{Enqueues}
use Rattle.cx_region_state.specs.declared.verdict.Verdict.{Verdict}
use Rattle.cx_region_commands.specs.Common.{does, has, condition_alone}
use Rattle.cx_region_commands.specs.Services.{fault_or_verdict}

-- LENGTH is there, and names nothing
abbrev pub is_wrong_length : Storage → Call → Bool
is_wrong_length storage call = has call Length && not (is_name_length (length_option storage call))

-- the resource's name
unfoldable pub resource_named : Storage → Call → Option ResourceName
resource_named storage call =
    if has call Length then option_map Bytes (bytes_of storage call Resource (length_option storage call))
    else option_map Address (place_of call Resource)

-- which is always there
unfoldable pub resource_at : Storage → Call → ResourceName
resource_at storage call = unwrap_or (resource_named storage call) (Address 0)

unfoldable pub enq_row : Storage → Resources → ℕ → Call → Verdict
enq_row storage resources slot call =
    let name = resource_at storage call in
    if is_wrong_length storage call then condition_alone Lengerr
    else fault_or_verdict (enq_fault resources slot name) (does (Before (Enqueues name)))
