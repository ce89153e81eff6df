use Rattle.std.proofs.Common.{◌≡◌, take, fold}
use Rattle.cx_base.specs.Hash.{hash_with}
use Rattle.cx_base.proofs.hash.hash_of_bytes.Given as goal

-- the hash of those so far
abbrev pub invariant-loop-byte : goal.invariant-loop-byte
invariant-loop-byte l = l.all ≡ fold hash_with l.fn.hash (take l.byte-index l.bytes)
