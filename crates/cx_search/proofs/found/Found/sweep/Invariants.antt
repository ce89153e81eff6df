use Rattle.std.proofs.Common.{ℕ}
use Rattle.cx_search.specs.Parts.Marks.{AreRight}
use Rattle.cx_search.specs.Nexts.{AreLinked}
use Rattle.cx_search.proofs.MarkLemmas.{Swept}
use Rattle.cx_search.proofs.found.Found.sweep.Given as goal

abbrev pub invariant-loop-k : goal.invariant-loop-k
invariant-loop-k g l = record {
  swept : Swept l.self.links.items l.rule l.fn.marks.items l.marks.items l.changed l.k;
  right : (space : g.row.T.Denot) (done : ℕ) → AreLinked (g.T.Space.goes space) l.self.states.entries l.self.links.items done
      → AreRight (g.T.Space.goes space) l.self.states.entries l.rule l.fn.marks.items → AreRight (g.T.Space.goes space) l.self.states.entries l.rule l.marks.items;
}
