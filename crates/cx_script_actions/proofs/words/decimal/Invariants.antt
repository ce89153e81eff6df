use Rattle.std.proofs.Common.{◌≡◌, ◌<◌, ◌^◌, take}
use Rattle.cx_script_actions.specs.Words.{decimal}
use Rattle.cx_script_actions.proofs.words.decimal.Given as goal

abbrev pub invariant-loop-digit : goal.invariant-loop-digit
invariant-loop-digit l = (l.number ≡ decimal (take l.digit-index l.digits)) × (l.number < 10 ^ l.digit-index)
