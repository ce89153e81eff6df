use Rattle.std.proofs.Common.{◌≡◌, drop}
use Rattle.cx_storage.specs.Storage.{area_at}
use Rattle.cx_storage.proofs.flat.area_in.Given as goal

-- no area passed so far starts there
abbrev pub invariant-loop-block : goal.invariant-loop-block
invariant-loop-block l = area_at (drop l.block-index l.blocks.items) l.start ≡ area_at l.blocks.items l.start
