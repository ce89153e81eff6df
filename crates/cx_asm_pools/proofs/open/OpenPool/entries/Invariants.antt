use Rattle.std.proofs.Common.{◌≡◌, take}
use Rattle.cx_asm_pools.specs.Pools.{by_text}
use Rattle.cx_asm_pools.proofs.open.OpenPool.entries.Given as goal

abbrev pub invariant-loop-i : goal.invariant-loop-i
invariant-loop-i l = by_text l.list.items ≡ take l.i l.self
