use Rattle.std.proofs.Common.{◌≡◌, ◌<◌, ◌^◌, map, take}
use Rattle.std.specs.List.{AllByRecursion}
use Rattle.cx_storage.specs.Address.{address_in}
use Rattle.cx_region_state.proofs.call.addresses_in.Given as goal

-- the addresses in the words gone through
abbrev pub invariant-loop-word : goal.invariant-loop-word
invariant-loop-word l = (l.places.items ≡ map address_in (take l.word-index l.words)) × AllByRecursion (λ place. place < 2 ^ 24) l.places.items
