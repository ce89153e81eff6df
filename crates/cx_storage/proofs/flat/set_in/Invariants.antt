use Rattle.std.proofs.Common.{◌≡◌, drop}
use Rattle.cx_storage.specs.Storage.{byte_at}
use Rattle.cx_storage.proofs.flat.set_in.Given as goal

-- nothing is written yet, and no area passed so far has the byte
abbrev pub invariant-loop-i : goal.invariant-loop-i
invariant-loop-i l = (l.blocks.items ≡ l.initial.blocks.items) × (byte_at (drop l.i l.blocks.items) l.a ≡ byte_at l.blocks.items l.a)
