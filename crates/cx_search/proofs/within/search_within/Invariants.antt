use Rattle.std.proofs.Common.{◌≤◌, length}
use Rattle.cx_search.specs.Found.{IsAt, Searched}
use Rattle.cx_search.specs.Nexts.{AreLinked}
use Rattle.cx_search.proofs.WithinLemmas.{AreFew}
use Rattle.cx_search.proofs.within.search_within.Given as goal

abbrev pub invariant-loop-at : goal.invariant-loop-at
invariant-loop-at g l = record {
  searched : Searched (g.T.Space.goes l.space) l.found.states.entries l.at 0;
  begins : IsAt l.found.states.entries 0 l.fn.start;
  most : length l.found.states.entries ≤ l.most;
  linked : AreLinked (g.T.Space.goes l.space) l.found.states.entries l.found.links.items l.at;
  few : AreFew l.found.states.entries l.at l.moves;
}
