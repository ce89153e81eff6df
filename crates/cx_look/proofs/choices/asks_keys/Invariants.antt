use Rattle.std.proofs.Common.{◌≡◌, drop}
use Rattle.cx_look.specs.Choices.{lines_meant}
use Rattle.cx_look.proofs.ChoiceLemmas.{are_asked}
use Rattle.cx_look.proofs.choices.asks_keys.Given as goal

abbrev pub invariant-loop-number : goal.invariant-loop-number
invariant-loop-number l = are_asked (drop l.number (lines_meant l.text)) ≡ are_asked (lines_meant l.text)
