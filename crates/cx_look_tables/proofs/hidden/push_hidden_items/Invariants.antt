use Rattle.std.proofs.Common.{◌≡◌, ◌+◌, ◌++◌}
use Rattle.std.specs.List.{flat_map, range_with_len}
use Rattle.cx_look_tables.specs.Hidden.{hidden_item}
use Rattle.cx_look_tables.proofs.hidden.push_hidden_items.Given as goal

abbrev pub invariant-loop-k : goal.invariant-loop-k
invariant-loop-k l = l.report ≡ l.initial.report ++ flat_map (λ k. hidden_item l.queues l.name (k + 1)) (range_with_len 0 l.k)
