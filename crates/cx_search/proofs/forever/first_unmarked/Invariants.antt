use Rattle.std.proofs.Common.{◌≡◌, ◌<◌, ℕ, true}
use Rattle.cx_search.specs.Parts.Marks.{is_marked}
use Rattle.cx_search.proofs.forever.first_unmarked.Given as goal

abbrev pub invariant-loop-place : goal.invariant-loop-place
invariant-loop-place l = (place : ℕ) → place < l.place → is_marked l.marks place ≡ true
