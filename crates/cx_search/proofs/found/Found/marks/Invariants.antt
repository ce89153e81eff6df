use Rattle.std.proofs.Common.{◌≡◌, ◌+◌, ℕ, length, false, cond}
use Rattle.cx_search.specs.Parts.Marks.{AreRight, AreStable, unmarked}
use Rattle.cx_search.specs.Nexts.{AreLinked}
use Rattle.cx_search.proofs.found.Found.marks.Given as goal

abbrev pub invariant-loop-changed : goal.invariant-loop-changed
invariant-loop-changed g l = record {
  long : length l.marks.items ≡ length l.self.links.items;
  right : (space : g.row.T.Denot) (done : ℕ) → AreLinked (g.T.Space.goes space) l.self.states.entries l.self.links.items done
      → AreRight (g.T.Space.goes space) l.self.states.entries l.rule l.marks.items;
  stable : l.changed ≡ false → AreStable l.self.links.items l.rule l.marks.items;
}

abbrev pub decreases-loop-changed : goal.decreases-loop-changed
decreases-loop-changed g l = unmarked l.marks.items + cond l.changed 1 0
