use Rattle.std.proofs.Common.{◌≡◌, ◌++◌, drop}
use Rattle.std.specs.List.{AllByRecursion, flat_map}
use Rattle.cx_orders.specs.Moves.{IsFew}
use Rattle.cx_look.specs.Parts.{choices_in}
use Rattle.cx_look.proofs.choices.choices_of.Given as goal

abbrev pub invariant-loop-line : goal.invariant-loop-line
invariant-loop-line l = record {
  are : l.keys.items ++ flat_map choices_in (drop l.line-index l.lines) ≡ flat_map choices_in l.lines;
  in_range : AllByRecursion IsFew l.keys.items;
}
