use Rattle.std.proofs.Common.{◌≡◌, ◌≤◌, ◌++◌, length, drop}
use Rattle.cx_base.specs.Digits.{digits}
use Rattle.cx_base.proofs.digits.fill.Given as goal

abbrev pub invariant-loop-at : goal.invariant-loop-at
invariant-loop-at l =
    (l.at ≤ length l.text) × (length l.text ≡ length l.initial.text) × (digits l.base l.at l.rest ++ drop l.at l.text ≡ digits l.base (length l.text) l.n)

abbrev pub decreases-loop-at : goal.decreases-loop-at
decreases-loop-at l = l.at
