use Rattle.std.proofs.Common.{◌≡◌, ◌+◌, ◌++◌, length, false}
use Rattle.cx_source.specs.Statements.{items_from}
use Rattle.cx_source.proofs.statements.items_of.Given as goal

abbrev pub invariant-loop-text : goal.invariant-loop-text
invariant-loop-text l =
    l.items.items ++ items_from l.continues (length l.items.items + 1) l.texts.items ≡ items_from false 1 l.fn.texts.items

abbrev pub decreases-loop-text : goal.decreases-loop-text
decreases-loop-text l = length l.texts.items
