-- Enqueued resources (Application Programmer's Reference Manual (Command Level), SC33-0077, "Task Control": ENQ and
-- DEQ). The limits are this product's own.
use Rattle.std.specs.Prelude.{ℕ, ◌+◌, ◌-◌, ◌≤◌, Bool, not, ◌==◌, nat_le, if◌then◌else◌, List, length, Option, Some, None}
use Rattle.std.specs.List.{AllByRecursion, IsDistinct, filter}
use Rattle.std.specs.Map.{lookup, set_value, keys_of, remove_entry}
use Rattle.indexmap.specs.IndexMap.{insert_entry}
use Rattle.cx_service.specs.declared.resources.ResourceName.{ResourceName}
use Rattle.cx_service.specs.declared.resources.Hold.{Hold}
use Rattle.cx_service.specs.contracts.resources.ResourceNamePartialEq.TheImpl as name_impl
use Rattle.cx_service.specs.declared.faults.ServiceFault.{ServiceFault}
use Rattle.cx_service.specs.declared.faults.ServiceFault.TheVariants.{Enqbusy, Invreq}

-- all resources that are owned: each with its name, its owner and how often the owner enqueued upon it
abbrev pub Resources : Type 0
Resources = List (ResourceName × Hold)

-- whether two names are the same resource's
abbrev pub is_resource : ResourceName → ResourceName → Bool
is_resource = (name_impl.ghosts).eq

abbrev pub most_resources : ℕ
most_resources = 256

abbrev pub most_count : ℕ
most_count = 65535

-- who holds the resource of a name
abbrev pub hold_of : Resources → ResourceName → Option Hold
hold_of resources name = lookup (is_resource name) resources

-- The condition that ENQ meets, by who holds the resource: it is another task's, or would be one too many; or the count
-- is full.
abbrev pub hold_fault : Resources → ℕ → Option Hold → Option ServiceFault
hold_fault resources slot None = if nat_le most_resources (length resources) then Some Enqbusy else None
hold_fault resources slot (Some hold) =
    if not (hold.owner == slot) then Some Enqbusy else if nat_le most_count hold.count then Some Invreq else None

unfoldable pub enq_fault : Resources → ℕ → ResourceName → Option ServiceFault
enq_fault resources slot name = hold_fault resources slot (hold_of resources name)

-- how often the owner enqueued upon the resource
abbrev pub count_at : Option Hold → ℕ
count_at None = 0
count_at (Some hold) = hold.count

-- ENQ: the count rises; a resource that nobody owned goes last
unfoldable pub enqueue : Resources → ℕ → ResourceName → Resources
enqueue resources slot name =
    insert_entry is_resource resources name (record { owner = slot; count = count_at (hold_of resources name) + 1 })

-- DEQ, by who holds the resource: its owner's count falls, and at zero it is free; another task's stays
abbrev pub with_count_down : Resources → ℕ → ResourceName → Option Hold → Resources
with_count_down resources slot name None = resources
with_count_down resources slot name (Some hold) =
    if not (hold.owner == slot) then resources
    else if hold.count == 1 then remove_entry (is_resource name) resources
    else set_value (is_resource name) resources (record hold { count = hold.count - 1 })

unfoldable pub dequeue : Resources → ℕ → ResourceName → Resources
dequeue resources slot name = with_count_down resources slot name (hold_of resources name)

-- the end of a task: what it owns is free
unfoldable pub without_owner : Resources → ℕ → Resources
without_owner resources slot = filter (λ entry. not (entry.1.owner == slot)) resources

-- ---- what always holds
pub record IsSoundHold (hold : Hold) : Type 0 where
  pub some : 1 ≤ hold.count
  pub few : hold.count ≤ most_count

-- resources with names of their own, within the limits
pub record AreSoundResources (resources : Resources) : Type 0 where
  pub distinct : IsDistinct is_resource (keys_of resources)
  pub few : length resources ≤ most_resources
  pub each : AllByRecursion (λ entry. IsSoundHold entry.1) resources
