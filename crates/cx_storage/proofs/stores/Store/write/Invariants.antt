use Rattle.std.proofs.Common.{◌≡◌, ◌^◌, ◌<◌, drop}
use Rattle.cx_storage.specs.Storage.{with_bytes}
use Rattle.cx_storage.proofs.stores.Store.write.Given as goal

-- what is written so far, and then the rest, is the whole
abbrev pub invariant-written : goal.invariant-written
invariant-written g l =
    (l.at < 2 ^ 24) × (with_bytes (g.Self.Store.storage l.self) l.at (drop l.value-index l.bytes) ≡ with_bytes (g.Self.Store.storage l.initial.self) l.a l.bytes)
