use Rattle.std.proofs.Common.{◌≡◌, drop, fold}
use Rattle.cx_storage_snapshot.specs.Hash.{hash_with_area}
use Rattle.cx_base.specs.Shared.{values}
use Rattle.cx_storage_snapshot.proofs.snapshot.hash_of_copies.Given as goal

-- the hash so far, with what is left, is that of all
abbrev pub invariant-loop-copy : goal.invariant-loop-copy
invariant-loop-copy l = fold hash_with_area l.hash (values (drop l.copy-index l.copies)) ≡ fold hash_with_area 0 (values l.copies)
