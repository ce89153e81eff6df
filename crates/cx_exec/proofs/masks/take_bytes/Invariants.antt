use Rattle.std.proofs.Common.{◌≡◌, ◌≤◌, map, take}
use Rattle.cx_exec.specs.Masks.{byte_of, selected_bytes}
use Rattle.cx_exec.proofs.masks.take_bytes.Given as goal

-- the bytes taken so far
abbrev pub invariant-loop-k : goal.invariant-loop-k
invariant-loop-k l = (take l.count l.buffer ≡ map (byte_of l.word) (selected_bytes l.mask l.k)) × (l.count ≤ l.k)
