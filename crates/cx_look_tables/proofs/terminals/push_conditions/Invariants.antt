use Rattle.std.proofs.Common.{◌≡◌, ◌++◌, take}
use Rattle.std.specs.List.{flat_map}
use Rattle.cx_look_tables.specs.Terminals.{stop_condition_word}
use Rattle.cx_look_tables.proofs.terminals.push_conditions.Given as goal

abbrev pub invariant-loop-condition : goal.invariant-loop-condition
invariant-loop-condition l =
    l.word.items ≡ l.initial.word.items ++ flat_map (stop_condition_word l.stops) (take l.condition-index l.conditions)
