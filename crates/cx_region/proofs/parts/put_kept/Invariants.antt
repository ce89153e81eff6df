use Rattle.std.proofs.Common.{◌≡◌, ◌++◌, drop, map, take}
use Rattle.cx_region.proofs.parts.put_kept.Given as goal

-- the first terminals have the states of those that are kept, and the others are as they were
abbrev pub invariant-loop-i : goal.invariant-loop-i
invariant-loop-i g l = let kept = map (g.T.KeptTerminal.kept) l.kept in l.terminals.entries ≡ take l.i kept ++ drop l.i l.fn.terminals.entries
