use Rattle.std.proofs.Common.{◌≡◌, drop}
use Rattle.std.specs.List.{find}
use Rattle.cx_look_faults.specs.Commands.{is_at_fault}
use Rattle.cx_look_faults.proofs.commands.first_at_fault.Given as goal

abbrev pub invariant-loop-phrase : goal.invariant-loop-phrase
invariant-loop-phrase l =
    find (is_at_fault l.kind l.operand) (drop l.phrase-index l.phrases) ≡ find (is_at_fault l.kind l.operand) l.phrases
