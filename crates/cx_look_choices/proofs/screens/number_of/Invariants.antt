use Rattle.std.proofs.Common.{◌≡◌, ℕ, ◌<◌, Some}
use Rattle.std.specs.Prelude.{slice_get}
use Rattle.cx_look_lines.specs.Words.{Lines}
use Rattle.cx_look_choices.proofs.screens.number_of.Given as goal

abbrev pub invariant-loop-i : goal.invariant-loop-i
invariant-loop-i l = (k : ℕ) (one : Lines) → k < l.i → slice_get l.texts k ≡ Some one → one ≡ l.text → ⊥
