use Rattle.std.proofs.Common.{◌≡◌, ◌++◌, drop}
use Rattle.std.specs.List.{AllByRecursion, filter_map}
use Rattle.cx_orders.specs.Moves.{IsFew}
use Rattle.cx_look.specs.Choices.{choice_of, lines_meant}
use Rattle.cx_look.specs.Parts.{choices_in}
use Rattle.cx_look.proofs.choices.add_choices.Given as goal

abbrev pub invariant-loop-number : goal.invariant-loop-number
invariant-loop-number l = record {
  are : l.keys.items ++ filter_map choice_of (drop l.number (lines_meant l.text)) ≡ l.fn.keys.items ++ choices_in l.text;
  in_range : AllByRecursion IsFew l.keys.items;
}
