use Rattle.std.proofs.Common.{◌<◌, ℕ}
use Rattle.cx_search.specs.Finds.{Finds, IsWhole}
use Rattle.cx_search.specs.Forever.{Loops}
use Rattle.cx_search.specs.Found.{IsAt}
use Rattle.cx_search.proofs.found.Found.first_looping.Given as goal

abbrev pub invariant-loop-place : goal.invariant-loop-place
invariant-loop-place g l =
    (space : g.row.T.Denot) (start : g.row.T-State.Denot) → Finds (g.T.Space.goes space) start l.self.states.entries
    → IsWhole (g.T.Space.goes space) start l.self.states.entries l.self.links.items
    → (other : ℕ) (state : g.row.T-State.Denot) → other < l.place → IsAt l.self.states.entries other state → Loops (g.T.Space.goes space) state → ⊥
