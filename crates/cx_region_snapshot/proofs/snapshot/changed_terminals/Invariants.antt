use Rattle.std.proofs.Common.{◌≡◌, length}
use Rattle.cx_region_snapshot.specs.Parts.Changes.{ArePut}
use Rattle.cx_region_snapshot.proofs.snapshot.changed_terminals.Given as goal

-- with the changes so far the first terminals are places for those that are kept, and the others as they are
abbrev pub invariant-loop-i : goal.invariant-loop-i
invariant-loop-i l = (length l.there.entries ≡ length l.kept) × ArePut l.there.entries l.kept l.changes.items l.i
