use Rattle.std.proofs.Common.{◌≡◌, fold}
use Rattle.std.specs.List.{AllByRecursion}
use Rattle.std.specs.Vec.Iter.{into_iter_items}
use Rattle.cx_region.specs.Changes.{IsNumberIn, with_terminal}
use Rattle.cx_region.proofs.parts.put_terminals.Given as goal

-- with the changes that are left the terminals are as with all of them
abbrev pub invariant-loop-change : goal.invariant-loop-change
invariant-loop-change l =
    (goal.iterator-loop-change).can_next l.change-iterator
    × (goal.iterator-loop-change).is_finite l.change-iterator
    × AllByRecursion (IsNumberIn l.terminals.entries) (into_iter_items l.change-iterator)
    × (fold with_terminal l.terminals.entries (into_iter_items l.change-iterator) ≡ fold with_terminal l.fn.terminals.entries l.fn.changes.items)
