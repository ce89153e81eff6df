use Rattle.std.proofs.Common.{◌≡◌, ◌*◌, ◌++◌, length, drop}
use Rattle.cx_region_state.specs.Call.{listed_in}
use Rattle.cx_region_state.proofs.call.listed_in.Given as goal

-- the conditions in the bytes gone through, and those in the rest
abbrev pub invariant-loop-k : goal.invariant-loop-k
invariant-loop-k l = (length l.conditions.items ≡ l.k) × (l.conditions.items ++ listed_in (drop (2 * l.k) l.bytes) ≡ listed_in l.bytes)
