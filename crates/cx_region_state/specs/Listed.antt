-- The conditions that HANDLE CONDITION and IGNORE CONDITION list, with their labels (Application Programmer's Reference
-- Manual, SC33-0077, "HANDLE CONDITION").
use Rattle.std.specs.Prelude.{ℕ, List, [], ◌∷◌, Option, Some, None, drop, slice_get, if◌then◌else◌}
use Rattle.std.specs.List.{find}
use Rattle.std.specs.Prelude.{◌==◌}
use Rattle.cx_base.specs.declared.conditions.Condition.{Condition}
use Rattle.cx_base.specs.declared.legal.ListedCondition.{ListedCondition}
use Rattle.cx_base.specs.Conditions.{entry_of, handled_conditions}
use Rattle.cx_region_state.specs.Call.{Call, has_label}
use Rattle.cx_region_state.specs.declared.listed.Listed.{Listed}

-- the condition of a number that may be listed
unfoldable pub handled_with : ℕ → Option Condition
handled_with number = find (λ condition. (entry_of condition).number == number) handled_conditions

-- a condition and its label, put before others; a number that is no condition's lists nothing
abbrev pub listed_with : Option Condition → Option ℕ → List Listed → List Listed
listed_with None label rest = rest
listed_with (Some condition) label rest = record { condition = condition; label = label } ∷ rest

-- each condition with its label: those with a label take the addresses in turn
unfoldable pub conditions_with_labels : List ListedCondition → List ℕ → List Listed
conditions_with_labels [] places = []
conditions_with_labels (listed ∷ rest) places =
    if has_label listed
    then listed_with (handled_with listed.number) (slice_get places 0) (conditions_with_labels rest (drop 1 places))
    else listed_with (handled_with listed.number) None (conditions_with_labels rest places)

-- the conditions that a call lists
unfoldable pub listed_of : Call → List Listed
listed_of call = conditions_with_labels call.conditions call.places
