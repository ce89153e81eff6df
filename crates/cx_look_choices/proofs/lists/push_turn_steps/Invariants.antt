use Rattle.std.proofs.Common.{◌≡◌, ◌++◌, drop, map}
use Rattle.cx_look_choices.specs.Presses.{turn_step}
use Rattle.cx_look_choices.proofs.lists.push_turn_steps.Given as goal

abbrev pub invariant-loop-turn : goal.invariant-loop-turn
invariant-loop-turn l = l.steps.items ++ map turn_step (drop l.turn-index l.made) ≡ l.initial.steps.items ++ map turn_step l.made
