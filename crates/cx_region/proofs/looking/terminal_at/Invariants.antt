use Rattle.std.proofs.Common.{◌≡◌}
use Rattle.cx_region.specs.Looking.{terminal_at}
use Rattle.cx_region.proofs.looking.terminal_at.Given as goal

abbrev pub invariant-loop-name : goal.invariant-loop-name
invariant-loop-name l = terminal_at l.name-iterator l.slot ≡ terminal_at l.terminals.entries l.slot
