use Rattle.std.proofs.Common.{ℕ, ◌<◌}
use Rattle.cx_search.proofs.rest.is_at_rest.Given as goal

abbrev pub invariant-loop-number : goal.invariant-loop-number
invariant-loop-number g l = (number : ℕ) (to : g.row.T-State.Denot) → number < l.number → g.T.Space.goes l.space l.state number to → ⊥
