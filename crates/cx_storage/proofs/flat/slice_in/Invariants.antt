use Rattle.std.proofs.Common.{◌≡◌, ◌<◌, drop}
use Rattle.cx_storage.specs.Storage.{in_one_area}
use Rattle.cx_storage.proofs.flat.slice_in.Given as goal

-- no area passed so far has the whole span
abbrev pub invariant-loop-block : goal.invariant-loop-block
invariant-loop-block l = 0 < l.n → in_one_area (drop l.block-index l.blocks.items) l.a l.n ≡ in_one_area l.blocks.items l.a l.n
