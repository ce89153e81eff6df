use Rattle.std.proofs.Common.{◌≡◌, drop}
use Rattle.cx_storage.specs.Storage.{byte_at}
use Rattle.cx_storage.proofs.flat.byte_in.Given as goal

-- no area passed so far has the byte
abbrev pub invariant-loop-block : goal.invariant-loop-block
invariant-loop-block l = byte_at (drop l.block-index l.blocks.items) l.a ≡ byte_at l.blocks.items l.a
