use Rattle.std.proofs.Common.{◌≡◌, ◌-◌, length}
use Rattle.cx_translate.specs.Expansion.{fill_to_column}
use Rattle.cx_translate.proofs.expansion.fill.Given as goal

abbrev pub invariant-loop-text : goal.invariant-loop-text
invariant-loop-text l = fill_to_column l.columns l.text.items ≡ fill_to_column l.columns l.fn.text.items

abbrev pub decreases-loop-text : goal.decreases-loop-text
decreases-loop-text l = l.columns - length l.text.items
