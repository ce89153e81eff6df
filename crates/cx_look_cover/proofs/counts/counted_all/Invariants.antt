use Rattle.std.proofs.Common.{◌≡◌, map, take}
use Rattle.cx_look_cover.specs.Counts.{counted_of}
use Rattle.cx_look_cover.proofs.counts.counted_all.Given as goal

abbrev pub invariant-loop-place : goal.invariant-loop-place
invariant-loop-place g l =
    l.counted.items ≡ map (counted_of (g.S.Store.storage l.store) l.tallies l.loaded) (take l.place-index l.places)
