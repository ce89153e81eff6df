use Rattle.std.proofs.Common.{◌≡◌, ◌-◌, length}
use Rattle.std.specs.List.{find, range_with_len}
use Rattle.cx_look_faults.specs.Marks.{stands_at}
use Rattle.cx_look_faults.proofs.marks.place_in_operand.Given as goal

abbrev pub invariant-loop-at : goal.invariant-loop-at
invariant-loop-at l =
    find (stands_at l.text l.operand) (range_with_len l.at (length l.operand - l.at)) ≡ find (stands_at l.text l.operand) (range_with_len 1 (length l.operand - 1))
