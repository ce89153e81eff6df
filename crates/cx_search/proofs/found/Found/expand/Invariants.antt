use Rattle.std.proofs.Common.{ℕ, ◌≡◌, ◌<◌, ◌≤◌, length}
use Rattle.cx_search.specs.Found.{IsAt, Searched}
use Rattle.cx_search.specs.Parts.Searching.{AreFirstNexts}
use Rattle.cx_search.proofs.found.Found.expand.Given as goal

abbrev pub invariant-loop-number : goal.invariant-loop-number
invariant-loop-number g l = record {
  searched : Searched (g.T.Space.goes l.space) l.self.states.entries l.at l.number;
  so_far : (state : g.row.T-State.Denot) → IsAt l.self.states.entries l.at state
      → AreFirstNexts (g.T.Space.goes l.space) l.self.states.entries state l.number l.nexts.items;
  kept : (place : ℕ) (s : g.row.T-State.Denot) → IsAt l.fn.self.states.entries place s → IsAt l.self.states.entries place s;
  within : l.at < length l.self.states.entries;
  few : length l.fn.self.states.entries ≤ l.most → length l.self.states.entries ≤ l.most;
  links : l.self.links ≡ l.fn.self.links;
}
