use Rattle.std.proofs.Common.{◌≡◌}
use Rattle.std.specs.List.{list_any}
use Rattle.cx_choices.specs.Moves.{has_number, is_given}
use Rattle.cx_choices.proofs.numbers.is_given.Given as goal

abbrev pub invariant-loop-name : goal.invariant-loop-name
invariant-loop-name g l = list_any (λ entry. has_number l.number entry.1) l._name-iterator ≡ is_given l.region.terminals l.number
