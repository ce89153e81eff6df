use Rattle.std.proofs.Common.{◌≡◌, ◌++◌, take}
use Rattle.cx_asm_pools.specs.Pools.{of_group, by_text}
use Rattle.cx_asm_pools.proofs.closed.push_group.Given as goal

abbrev pub invariant-loop-entry : goal.invariant-loop-entry
invariant-loop-entry l = by_text l.list.items ≡ by_text l.initial.list.items ++ of_group l.group (by_text (take l.entry-index l.pool))
