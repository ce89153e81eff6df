-- What always holds of a region is kept by every event.
use Rattle.cx_load.specs.Fault.{IsFit}
use Rattle.cx_service.specs.Queues.{AreSoundQueues}
use Rattle.cx_service.specs.Resources.{AreSoundResources}
use Rattle.cx_storage.specs.Storage.{IsSoundStorage}
use Rattle.cx_region.specs.declared.replies.Event.{Event}
use Rattle.cx_region.specs.declared.replies.Event.TheVariants as event
use Rattle.cx_region.specs.declared.replies.Reply.{Reply}
use Rattle.cx_region.specs.State.{RegionState}
use Rattle.cx_region.specs.Events.{Applies, IsAllowed}
use Rattle.cx_region.specs.Sound.{IsSound}

-- What every store, every list of queues and every list of resources keeps by itself, whatever is done with it:
-- disjoint areas that have their bytes, each below 256; the limits of queues and of holds.
pub record ArePartsSound (region : RegionState) : Type 0 where
  pub storage : IsSoundStorage region.shared.storage
  pub queues : AreSoundQueues region.shared.queues
  pub resources : AreSoundResources region.shared.resources

-- the image of a program that is to be defined was checked
abbrev pub IsChecked : Event → Type 0
IsChecked (event.Program name image) = IsFit image
IsChecked _ = Unit {0}

-- an event of a sound region leads to a sound one
abbrev pub SoundIsKept : Type 0
SoundIsKept =
    (old new : RegionState) (e : Event) (r : Reply) → IsSound old → IsAllowed e → IsChecked e → Applies old e r new
    → ArePartsSound new → IsSound new
