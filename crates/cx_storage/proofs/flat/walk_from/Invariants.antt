use Rattle.std.proofs.Common.{◌≡◌, ◌≤◌, ◌^◌, drop}
use Rattle.cx_storage.specs.Parts.Flat.{walk}
use Rattle.cx_storage.proofs.flat.walk_from.Given as goal

-- the walk goes on from here over the areas that are left
abbrev pub invariant-loop-block : goal.invariant-loop-block
invariant-loop-block l = (l.at ≤ 2 ^ 33) × (walk l.len l.at (drop l.block-index l.blocks.items) ≡ walk l.len l.start l.blocks.items)
