use Rattle.std.proofs.Common.{◌≡◌, ◌≤◌, ℕ, false, length}
use Rattle.cx_search.specs.Found.{IsAt}
use Rattle.cx_search.specs.Parts.Marks.{IsComeTo, is_marked, unmarked}
use Rattle.cx_search.specs.Nexts.{AreLinked}
use Rattle.cx_search.proofs.found.Found.repeated.Given as goal

abbrev pub invariant-walk : goal.invariant-walk
invariant-walk g l = record {
  free : is_marked l.marks.items l.at ≡ false;
  long : length l.seen.items ≡ length l.self.links.items;
  come : (space : g.row.T.Denot) (done : ℕ) (state : g.row.T-State.Denot)
      → AreLinked (g.T.Space.goes space) l.self.states.entries l.self.links.items done → length l.self.states.entries ≤ done
      → IsAt l.self.states.entries 0 state → IsComeTo (g.T.Space.goes space) l.self.states.entries l.seen.items l.at;
}

abbrev pub decreases-walk : goal.decreases-walk
decreases-walk g l = unmarked l.seen.items
