use Rattle.std.proofs.Common.{◌≡◌, ◌^◌, ◌<◌, length, take, is_some, true, ◌-◌}
use Rattle.cx_storage.specs.Storage.{span}
use Rattle.cx_storage.proofs.Filling.{joined}
use Rattle.cx_storage.proofs.stores.Store.read.Given as goal

-- the bytes filled so far are the first of the span
abbrev pub invariant-filled : goal.invariant-filled
invariant-filled g l =
    (l.at < 2 ^ 24) × (is_some (span (g.Self.Store.storage l.self) l.at (length l.buffer - l.value-index)) ≡ true)
    × (span (g.Self.Store.storage l.self) l.a (length l.buffer) ≡ joined (take l.value-index l.buffer) (span (g.Self.Store.storage l.self) l.at (length l.buffer - l.value-index)))
