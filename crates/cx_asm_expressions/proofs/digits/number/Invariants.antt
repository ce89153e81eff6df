use Rattle.std.proofs.Common.{◌≡◌, ◌≤◌, drop, map}
use Rattle.std.specs.Int.Digits.{number_from_digits_after}
use Rattle.cx_asm_expressions.specs.Digits.{digit_value, number_in, bound}
use Rattle.cx_asm_expressions.proofs.digits.number.Given as goal

abbrev pub invariant-loop-c : goal.invariant-loop-c
invariant-loop-c l =
    record {
      small : l.number ≤ bound;
      goes_on : number_from_digits_after l.base l.number (map digit_value (drop l.c-index l.text)) ≡ number_in l.base l.text;
    }
