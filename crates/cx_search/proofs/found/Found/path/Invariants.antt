use Rattle.std.proofs.Common.{◌≡◌, length}
use Rattle.cx_search.specs.Finds.{Finds}
use Rattle.cx_search.specs.Found.{IsAt}
use Rattle.cx_search.proofs.PathLemmas.{Walked}
use Rattle.cx_search.proofs.found.Found.path.Given as goal

abbrev pub invariant-loop : goal.invariant-loop
invariant-loop g l = record {
  many : length l.moves.items ≡ l.counter;
  walked : (space : g.row.T.Denot) (start state : g.row.T-State.Denot) → Finds (g.T.Space.goes space) start l.self.states.entries
      → IsAt l.self.states.entries l.place state → Walked l.self.states.entries l.moves.items l.place l.at l.many;
}
