use Rattle.std.proofs.Common.{◌≡◌, length}
use Rattle.cx_choices.specs.Settling.{MakesTurns}
use Rattle.cx_choices.proofs.settling.settle.Given as goal

abbrev pub invariant-loop : goal.invariant-loop
invariant-loop g l = MakesTurns l.fn.region l.made.items l.region × (length l.made.items ≡ l.counter)
