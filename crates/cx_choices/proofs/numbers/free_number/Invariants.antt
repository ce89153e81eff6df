use Rattle.std.proofs.Common.{◌≤◌}
use Rattle.cx_choices.proofs.NumberLemmas.{IsOnWay}
use Rattle.cx_choices.proofs.numbers.free_number.Given as goal

abbrev pub invariant-loop : goal.invariant-loop
invariant-loop g l = IsOnWay l.region.terminals l.number l.counter l.last × (l.last ≤ 9999999)
