use Rattle.std.proofs.Common.{◌≡◌, drop}
use Rattle.cx_load.specs.Laws.Words.{are_in_order}
use Rattle.cx_load.proofs.fault.are_in_order.Given as goal

-- the words left are in order after the end of the last
abbrev pub invariant-loop-r : goal.invariant-loop-r
invariant-loop-r l = are_in_order l.end (drop l.r-index l.relocs) ≡ are_in_order 0 l.relocs
