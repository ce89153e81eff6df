use Rattle.std.proofs.Common.{◌≡◌, ◌≤◌, ◌++◌, length, drop}
use Rattle.cx_region_state.specs.Listed.{conditions_with_labels}
use Rattle.cx_region_state.proofs.listed.conditions_with_labels.Given as goal

-- the conditions gone through, and those in the rest of the list
abbrev pub invariant-loop-entry : goal.invariant-loop-entry
invariant-loop-entry l =
    (length l.listed ≤ l.entry-index) × (l.labels ≤ l.entry-index)
    × (l.listed ++ conditions_with_labels (drop l.entry-index l.conditions) (drop l.labels l.places) ≡ conditions_with_labels l.conditions l.places)
