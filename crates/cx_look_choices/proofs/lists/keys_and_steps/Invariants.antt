use Rattle.std.proofs.Common.{◌≡◌, ◌++◌, drop}
use Rattle.cx_look_choices.specs.Presses.{keys_pressed, steps_after, steps_of}
use Rattle.cx_look_choices.proofs.lists.keys_and_steps.Given as goal

abbrev pub invariant-loop-press : goal.invariant-loop-press
invariant-loop-press g l =
    (l.keys.items ++ keys_pressed l.choices (drop l.press-index l.presses) ≡ keys_pressed l.choices l.presses)
    × (l.steps.items ++ steps_after l.region l.choices l.keys.items (drop l.press-index l.presses) ≡ steps_of l.region l.choices l.presses)
