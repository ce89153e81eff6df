use Rattle.std.proofs.Common.{◌≡◌, length}
use Rattle.cx_storage_pages.specs.Parts.Slots.{AreLeft, IsOutside}
use Rattle.cx_storage_pages.proofs.slots.empty_part.Given as goal

-- the slots so far are emptied
abbrev pub invariant-loop-half : goal.invariant-loop-half
invariant-loop-half l = (length l.slots ≡ 1024) × AreLeft (IsOutside l.from l.half) l.initial.slots l.slots
