use Rattle.std.proofs.Common.{◌≡◌, drop}
use Rattle.cx_load.specs.Fault.{all_apart}
use Rattle.cx_load.proofs.fault.no_pair_overlaps.Given as goal

-- the words looked at so far are apart from all after them
abbrev pub invariant-loop-i : goal.invariant-loop-i
invariant-loop-i l = all_apart (drop l.i l.relocs) ≡ all_apart l.relocs
