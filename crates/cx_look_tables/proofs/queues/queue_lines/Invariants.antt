use Rattle.std.proofs.Common.{◌≡◌, ◌++◌}
use Rattle.std.specs.List.{flat_map}
use Rattle.cx_look_tables.specs.Queues.{queue_line}
use Rattle.cx_look_tables.proofs.queues.queue_lines.Given as goal

abbrev pub invariant-loop-name : goal.invariant-loop-name
invariant-loop-name l = l.report ++ flat_map queue_line l.name-iterator ≡ l.initial.report ++ flat_map queue_line l.queues.entries
