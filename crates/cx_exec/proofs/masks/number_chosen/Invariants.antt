use Rattle.std.proofs.Common.{◌≡◌, ◌≤◌, length}
use Rattle.cx_exec.specs.Masks.{selected_bytes}
use Rattle.cx_exec.proofs.masks.number_chosen.Given as goal

-- the places chosen so far
abbrev pub invariant-loop-j : goal.invariant-loop-j
invariant-loop-j l = (l.count ≡ length (selected_bytes l.mask l.j)) × (l.count ≤ l.j)
