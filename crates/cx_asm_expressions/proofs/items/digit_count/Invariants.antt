use Rattle.std.proofs.Common.{◌≡◌, ◌+◌, drop}
use Rattle.std.specs.List.{prefix_len}
use Rattle.cx_asm_expressions.specs.Digits.{is_digit}
use Rattle.cx_asm_expressions.proofs.items.digit_count.Given as goal

abbrev pub invariant-loop-i : goal.invariant-loop-i
invariant-loop-i l = l.i + prefix_len (is_digit 10) (drop l.i l.text) ≡ prefix_len (is_digit 10) l.text
