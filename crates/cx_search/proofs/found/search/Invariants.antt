use Rattle.std.proofs.Common.{◌≤◌, length}
use Rattle.cx_search.specs.Found.{IsAt, Searched}
use Rattle.cx_search.specs.Nexts.{AreLinked}
use Rattle.cx_search.proofs.found.search.Given as goal

abbrev pub invariant-loop-at : goal.invariant-loop-at
invariant-loop-at g l =
    Searched (g.T.Space.goes l.space) l.found.states.entries l.at 0
    × IsAt l.found.states.entries 0 l.fn.start
    × (length l.found.states.entries ≤ l.most)
    × AreLinked (g.T.Space.goes l.space) l.found.states.entries l.found.links.items l.at
