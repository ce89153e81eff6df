use Rattle.std.proofs.Common.{◌≡◌, drop}
use Rattle.cx_storage.specs.Storage.{next_area}
use Rattle.cx_storage.proofs.flat.next_in.Given as goal

-- each area passed so far starts below
abbrev pub invariant-loop-block : goal.invariant-loop-block
invariant-loop-block l = next_area (drop l.block-index l.blocks.items) l.from ≡ next_area l.blocks.items l.from
