use Rattle.std.proofs.Common.{◌≡◌, ◌+◌, ◌*◌, ◌^◌, ◌≤◌, take}
use Rattle.cx_look_fields.specs.Numbers.{number_of_digits}
use Rattle.cx_look_fields.proofs.numbers.number_of_digits.Given as goal

abbrev pub invariant-loop-digit : goal.invariant-loop-digit
invariant-loop-digit l = (l.number ≡ number_of_digits (take l.digit-index l.digits)) × (l.number + 29 ≤ 29 * 10 ^ l.digit-index)
