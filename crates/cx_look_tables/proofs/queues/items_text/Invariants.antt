use Rattle.std.proofs.Common.{◌≡◌, ◌+◌, ◌++◌, drop}
use Rattle.cx_look_tables.specs.Queues.{items_text}
use Rattle.cx_look_tables.proofs.queues.items_text.Given as goal

abbrev pub invariant-loop-i : goal.invariant-loop-i
invariant-loop-i l = l.report ++ items_text (l.i + 1) (drop l.i l.queue.items) ≡ l.initial.report ++ items_text 1 l.queue.items
