use Rattle.std.proofs.Common.{◌≡◌, ◌^◌, ◌<◌, is_some, ◌-◌}
use Rattle.cx_storage.specs.Storage.{span}
use Rattle.cx_storage.proofs.stores.Store.has_span.Given as goal

-- the bytes tested so far are there
abbrev pub invariant-tested : goal.invariant-tested
invariant-tested g l =
    (l.at < 2 ^ 24) × (is_some (span (g.Self.Store.storage l.self) l.at (l.n - l._k)) ≡ is_some (span (g.Self.Store.storage l.self) l.a l.n))
